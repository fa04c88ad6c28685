use Rattle.std.proofs.Common.{◌≡◌, ◌∙◌, ◌∷◌, ◌++◌, [], Bool, sym, ap, position, take, drop, Some, None}
use Rattle.std.specs.Prelude.{if◌then◌else◌}
use Rattle.cell_model.specs.Units.{UnitNo}
use Rattle.dependency_sets.proofs.Places.{reaches, comes-last, comes-at, is-there}
use Rattle.dependency_sets.proofs.set.put_in.Goals as goal

pub returns-in_default-clause-items : goal.returns-in_default-clause-items
returns-in_default-clause-items c =
    let units = c.args.units.now.items in
    let e : position (reaches c.args.unit) units ≡ None = ap (position (reaches c.args.unit)) (sym c.deref.ensures.value) ∙ sym c.in_default.ensures in
    c.push-done.ensures.items
    ∙ ap (λ (ok : Bool). if ok then units ++ c.args.unit ∷ [] else units) (sym c.if-prove.ensures.value)
    ∙ sym (comes-last units c.args.unit e)

pub returns-then-index-unit-clause-items : goal.returns-then-index-unit-clause-items
returns-then-index-unit-clause-items c =
    let units = c.args.units.now.items in
    let e : position (reaches c.args.unit) units ≡ Some c.in-Some.at = ap (position (reaches c.args.unit)) (sym c.deref.ensures.value) ∙ sym c.in-Some.ensures in
    c.insert-done.ensures.items
    ∙ ap (λ (ok : Bool). if ok then take c.in-Some.at units ++ c.args.unit ∷ drop c.in-Some.at units else units) (sym c.if-prove-2.ensures.value)
    ∙ sym (comes-at units c.args.unit c.in-Some.at c.index.result.now e (λ q. c.if-index-unit.true (ap (λ (u : UnitNo). u.0) c.index.ensures ∙ q)))

pub returns-else-index-unit-clause-items : goal.returns-else-index-unit-clause-items
returns-else-index-unit-clause-items c =
    let units = c.args.units.now.items in
    let e : position (reaches c.args.unit) units ≡ Some c.in-Some.at = ap (position (reaches c.args.unit)) (sym c.deref.ensures.value) ∙ sym c.in-Some.ensures in
    sym (is-there units c.args.unit c.in-Some.at c.index.result.now e (ap (λ (u : UnitNo). u.0) (sym c.index.ensures) ∙ c.if-index-unit.false))
