use Rattle.std.proofs.Common.{◌≡◌, ◌∙◌, ap, sym, Some, None, position}
use Rattle.silo_nodes.proofs.KeptYes.{is_named, agreed-none, agreed-at, on-ok}
use Rattle.silo_nodes.proofs.parts.agree.Goals as goal

pub returns-in_default-clause-ok : goal.returns-in_default-clause-ok
returns-in_default-clause-ok c =
    let e : position (is_named c.args.txn) c.args.pending.now.items ≡ None = ap (position (is_named c.args.txn)) (sym c.deref.ensures.value) ∙ sym c.in_default.ensures in
    agreed-none c.args.txn c.args.from c.args.pending.now.items e

pub returns-clause-ok : goal.returns-clause-ok
returns-clause-ok c =
    let e : position (is_named c.args.txn) c.args.pending.now.items ≡ Some c.in-Some.at = ap (position (is_named c.args.txn)) (sym c.deref.ensures.value) ∙ sym c.in-Some.ensures in
    on-ok c.add_yes.result _ _ c.add_yes.ensures.ok (λ kept. agreed-at c.args.txn c.args.from c.args.pending.now.items c.in-Some.at c.index_mut.result.now c.add_yes.new.said e c.index_mut.ensures.value kept)
