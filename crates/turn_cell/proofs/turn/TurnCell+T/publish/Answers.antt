use Rattle.std.proofs.Common.{rules, ◌≡◌, [], subst, arith}
use Rattle.turn_cell.specs.declared.view.View.{View}
use Rattle.turn_cell.specs.Passes.{grown}
use Rattle.turn_cell.proofs.CellRule.{may_publish}
use Rattle.turn_cell.proofs.turn.TurnCell+T.publish.Goals as goal

pub store-requires : goal.store-requires
store-requires g c = let at = c.requires.turn.1.2 in
    (search rules, search rules, may_publish _ _ _ _ _ (search rules) c.args.pass.now.me.0 c.args.object c.args.asked c.args.said _ _ c.put_home.ensures.home c.requires.turn.1.1 c.requires.object c.requires.said (omega (arith, at)))

pub returns-clause-back : goal.returns-clause-back
returns-clause-back g c = subst
    (λ (z : View g.row.T.Denot g.row.T-Event.Denot g.row.T-Reply.Denot). c.store.new.seat.me ≡ (grown z c.args.asked.value c.args.said.value, []))
    (λ i. (c.put_home.ensures.home i).0)
    (c.store.ensures.2 c.args.object c.args.asked c.args.said (λ i. (c.put_home.ensures.home i).1))
