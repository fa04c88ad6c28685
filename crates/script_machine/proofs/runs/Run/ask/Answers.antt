use Rattle.std.proofs.Common.{◌≡◌, ◌+◌, rules}
use Rattle.script_values.specs.Faults.{units}
use Rattle.script_meaning.specs.Requests.{stop}
use Rattle.script_meaning.specs.Calls.{in_own_unit}
use Rattle.script_machine.specs.Runs.{back_here, caught_here}
use Rattle.script_machine.proofs.Stops.{left_at}
use Rattle.script_machine.proofs.runs.Run.ask.Goals as goal

pub returns-then-not-ask_unit-clause-tree : goal.returns-then-not-ask_unit-clause-tree
returns-then-not-ask_unit-clause-tree c types =
    let run = c.args.self.now in
    let callee = c.args.callee.now in
    let ends : in_own_unit (record { grain = callee.grain; method = callee.number; args = c.args.args }) (run.top.post.depth + 1) (back_here types run) (caught_here types run) run.has ≡ stop units c.ask_unit.new.self = search rules in
    left_at _ _ c.stop_at.ensures _ (record run { has = c.ask_unit.new.self }) ends
