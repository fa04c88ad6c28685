use Rattle.std.proofs.Common.{take}
use Rattle.script_tree.specs.Programs.{program_tree}
use Rattle.script_machine.specs.Frames.{body_at}
use Rattle.script_machine.specs.OpenBlocks.{IsOpen}
use Rattle.script_machine.proofs.open_blocks.Open.follow.Given as goal

abbrev pub invariant-loop-opened : goal.invariant-loop-opened
invariant-loop-opened l = IsOpen (body_at (program_tree l.checked) l.frame.post) (take l.opened-index l.frame.path.items) l.self
