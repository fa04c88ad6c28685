use Rattle.std.proofs.Common.{◌≡◌, refl, rules, filter, ◌++◌}
use Rattle.silo_nodes.specs.Coordinators.{Pending, reminders, prepare_each, is_late}
use Rattle.silo_nodes.proofs.GrownLists.{sends_on, sends_all}
use Rattle.silo_nodes.proofs.parts.remind_all.Goals as goal

pub loop-one-preserved : goal.loop-one-preserved
loop-one-preserved c =
    let p : Pending = c.one-item.result in
    let here : c.remind.new.sent.items ≡ c.loop-one.sent.items ++ prepare_each p.txn (filter (is_late p.yes) p.parts) = search rules in
    sends_on reminders (λ (q : Pending). prepare_each q.txn (filter (is_late q.yes) q.parts)) (λ q qs. refl) c.args.pending.now c.loop-one.one-index c.one-item.result _ _ _
    c.loop-one-test.true c.one-item.is here c.loop-one.invariant

pub returns : goal.returns
returns c = sends_all reminders refl c.args.pending.now c.loop-one.one-index _ _ c.loop-one-test.false c.loop-one.invariant
