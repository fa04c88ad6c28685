use Rattle.std.proofs.Common.{◌≡◌}
use Rattle.script_tree.specs.Programs.{program_tree}
use Rattle.script_machine.specs.Runs.{HasOpen, running, size}
use Rattle.script_machine.proofs.runs.Run.go.Given as goal

abbrev pub invariant-steps : goal.invariant-steps
invariant-steps l = record {
  same : running (program_tree l.checked) l.fn.self ≡ running (program_tree l.checked) l.self;
  blocks : HasOpen (program_tree l.checked) l.self l.blocks;
}

abbrev pub decreases-steps : goal.decreases-steps
decreases-steps l = size l.self
