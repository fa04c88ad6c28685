use Rattle.std.proofs.Common.{◌≡◌, drop}
use Rattle.std.specs.List.{fold}
use Rattle.script_tree.specs.Stmts.{stmt_trees, block_tree}
use Rattle.script_tree.specs.Programs.{program_tree}
use Rattle.script_machine.specs.Blocks.{inner}
use Rattle.script_machine.specs.Frames.{block_of}
use Rattle.script_machine.proofs.frames.Frame.block.Given as goal

abbrev pub invariant-loop-opened : goal.invariant-loop-opened
invariant-loop-opened l = fold inner (block_tree (stmt_trees l.block)) (drop l.opened-index l.self.path.items) ≡ block_of (program_tree l.checked) l.self
