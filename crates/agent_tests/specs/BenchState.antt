-- What is known of a bench.
use Rattle.core_access.specs.OneHolder.{none_comes, own_sight}
use Rattle.history_core.specs.Cores.{run_of}
use Rattle.script_tree.specs.Programs.{ProgramTree}
use Rattle.unit_carrier.specs.CarriedUnits.{AreCarried}
use Rattle.agent_tests.specs.declared.bench.Bench.{Bench}

-- each agent knows its unit in the core
abbrev pub IsCarrying : ProgramTree → Bench → Type 0
IsCarrying types b = AreCarried types none_comes (own_sight (run_of b.core.core)) b.agents.list.items
