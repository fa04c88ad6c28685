use Rattle.std.proofs.Common.{rules, ◌≡◌, true}
use Rattle.core_access.specs.OneHolder.{none_comes, own_sight}
use Rattle.core_access.specs.SettlerEvents.{is_settling}
use Rattle.script_tree.specs.Programs.{program_tree}
use Rattle.history_core.specs.Cores.{run_of}
use Rattle.unit_carrier.proofs.CarriedUnits.{settles-carried}
use Rattle.agent_tests.proofs.bench.Bench.settle_one.Goals as goal

pub returns-in-Ok : goal.returns-in-Ok
returns-in-Ok c =
    let settling : is_settling c.in-Some.event ≡ true = search (c.in-Some.is, c.in_ok-next_settling.ensures, rules) in
    settles-carried (program_tree c.args.checked.now) none_comes (own_sight (run_of c.args.self.now.core.core)) (own_sight (run_of c.put.new.self))
    c.in-Some.event c.in-Ok.reply c.args.self.now.agents.list.items c.in-Ok.ensures.put settling c.requires
