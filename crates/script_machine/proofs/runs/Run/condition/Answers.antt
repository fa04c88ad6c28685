use Rattle.std.proofs.Common.{◌≡◌, rules}
use Rattle.script_tree.specs.Exprs.{expr_tree}
use Rattle.script_tree.specs.Programs.{program_tree}
use Rattle.script_values.specs.Faults.{kind}
use Rattle.script_holding.specs.Holding.{Holding}
use Rattle.script_meaning.specs.Requests.{Requests, stop}
use Rattle.script_machine.specs.Runs.{chosen_by, value_here}
use Rattle.script_machine.proofs.Stops.{truth_at}
use Rattle.script_machine.proofs.runs.Run.condition.Goals as goal

pub returns-in-Text : goal.returns-in-Text
returns-in-Text c =
    let value = value_here (program_tree c.args.checked.now) c.args.self.now (expr_tree c.args.test.now) in
    let ends : (has : Holding) (first second : Requests) → chosen_by value has first second ≡ stop kind has = search rules in
    truth_at _ _ c.stop_at.ensures _ ends
