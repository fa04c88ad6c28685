use Rattle.std.proofs.Common.{◌≡◌, rules}
use Rattle.script_tree.specs.Exprs.{expr_tree}
use Rattle.script_tree.specs.Programs.{program_tree}
use Rattle.script_values.specs.Faults.{unknown}
use Rattle.script_meaning.specs.Requests.{stop, with_value}
use Rattle.script_machine.specs.Runs.{sets_here, value_here}
use Rattle.script_machine.proofs.Stops.{left_at}
use Rattle.script_machine.proofs.runs.Run.set.Goals as goal

pub returns-in_default-clause-tree : goal.returns-in_default-clause-tree
returns-in_default-clause-tree c =
    let run = c.args.self.now in
    let types = program_tree c.args.checked.now in
    let ends : with_value (value_here types run (expr_tree c.args.value.now)) run.has (sets_here types run c.args.name.now) ≡ stop unknown run.has = search rules in
    left_at _ _ c.stop_at.ensures _ run ends
