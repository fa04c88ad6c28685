use Rattle.std.proofs.Common.{rules, ◌≡◌, List, [], ◌∷◌, Some, sym, ap, subst, false}
use Rattle.atomic_table.specs.Table.{opening}
use Rattle.turn_cell.specs.declared.place.Place.{Place}
use Rattle.turn_cell.specs.declared.place.Place.TheVariants.{Home}
use Rattle.turn_cell.specs.Hands.{first_hand}
use Rattle.turn_cell.specs.Passes.{view}
use Rattle.turn_cell.specs.Rule.{IsOneHistory}
use Rattle.turn_cell.proofs.CellRule.{makes}
use Rattle.turn_cell.proofs.cell.TurnCell+T.new.Goals as goal

pub new-requires-2 : goal.new-requires-2
new-requires-2 g c =
    let items : c.push.new.self.items ≡ Home c.in_ok-boxed.boxed ∷ [] = search rules in
    let boxed : c.in_ok-boxed.boxed.value ≡ c.args.object = search rules in
    let first : c.of-first.result.value ≡ c.args.object = search rules in
    subst (λ (z : List (Place g.row.T.Denot g.row.T-Event.Denot g.row.T-Reply.Denot) × g.row.T.Denot). IsOneHistory g.T.TurnObject.state g.T.TurnObject.after g.T.TurnObject.reply (opening (0 ∷ []) z.0 (view z.1 [] false first_hand)))
    (λ i. (sym items i, sym first i))
    (makes g.T.TurnObject.state g.T.TurnObject.after g.T.TurnObject.reply c.args.object (Home c.in_ok-boxed.boxed) (ap Some boxed))
