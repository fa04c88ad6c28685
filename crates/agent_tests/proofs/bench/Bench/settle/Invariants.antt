use Rattle.script_tree.specs.Programs.{program_tree}
use Rattle.agent_tests.specs.BenchState.{IsCarrying}
use Rattle.agent_tests.proofs.bench.Bench.settle.Given as goal

-- each agent knows its unit still
abbrev pub invariant-loop : goal.invariant-loop
invariant-loop l = IsCarrying (program_tree l.checked) l.self
