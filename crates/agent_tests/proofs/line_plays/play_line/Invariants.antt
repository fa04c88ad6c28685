use Rattle.script_tree.specs.Programs.{program_tree}
use Rattle.agent_tests.specs.BenchState.{IsCarrying}
use Rattle.agent_tests.proofs.line_plays.play_line.Given as goal

-- each agent knows its unit still
abbrev pub invariant-loop-word : goal.invariant-loop-word
invariant-loop-word l = IsCarrying (program_tree l.checked) l.bench
