use Rattle.std.proofs.Common.{◌≡◌, ◌∙◌, sym, ap, position, Some, None}
use Rattle.base_types.specs.declared.calls.GrainId.{GrainId}
use Rattle.cell_model.specs.Units.{same_grain}
use Rattle.open_batch.proofs.GrainPlan.{reaches, comes-last, comes-at, is-there}
use Rattle.open_batch.proofs.plan.add_grain.Goals as goal

pub returns-in_default : goal.returns-in_default
returns-in_default c =
    let plan = c.args.plan.now.items in
    let e : position (reaches c.args.grain) plan ≡ None = ap (position (reaches c.args.grain)) (sym c.deref.ensures.value) ∙ sym c.in_default.ensures in
    c.in_ok-push.ensures.items ∙ sym (comes-last plan c.args.grain e)

pub returns-in_ok-insert : goal.returns-in_ok-insert
returns-in_ok-insert c =
    let plan = c.args.plan.now.items in
    let e : position (reaches c.args.grain) plan ≡ Some c.in-Some.at = ap (position (reaches c.args.grain)) (sym c.deref.ensures.value) ∙ sym c.in-Some.ensures in
    let other = ap (λ (g : GrainId). same_grain g c.args.grain) (sym c.index.ensures) ∙ sym c.is_same.ensures ∙ c.if-not-is_same.true in
    c.in_ok-insert.ensures.items ∙ sym (comes-at plan c.args.grain c.in-Some.at c.index.result.now e other)

pub returns-else-not-is_same : goal.returns-else-not-is_same
returns-else-not-is_same c =
    let plan = c.args.plan.now.items in
    let e : position (reaches c.args.grain) plan ≡ Some c.in-Some.at = ap (position (reaches c.args.grain)) (sym c.deref.ensures.value) ∙ sym c.in-Some.ensures in
    let same = ap (λ (g : GrainId). same_grain g c.args.grain) (sym c.index.ensures) ∙ sym c.is_same.ensures ∙ c.if-not-is_same.false in
    sym (is-there plan c.args.grain c.in-Some.at c.index.result.now e same)
