use Rattle.script_tree.specs.Programs.{program_tree}
use Rattle.agent_tests.specs.BenchState.{IsCarrying}
use Rattle.agent_tests.proofs.line_plays.play.Given as goal

-- each agent knows its unit still
abbrev pub invariant-loop-line : goal.invariant-loop-line
invariant-loop-line g l = IsCarrying (program_tree l.checked) l.bench
