-- What holders read.
use Rattle.std.proofs.Common.{◌≡◌, List, [], ◌∷◌, ◌++◌, true, false, ◌&&◌, not, ◌⊎◌, inl, inr, refl, sym, ◌∙◌}
use Rattle.std.proofs.lemmas.Bool.{cond_both, not-true, not_from_false, and_parts, and_from}
use Rattle.cell_model.specs.Cells.{is_reading_of, with_reading, without_reading, reads_top}
use Rattle.cell_model.proofs.Units.{same_unit-true, same_unit-false, same_unit-is, same_unit-not, any-true, any-false, any-member, Member-append, Member-left, Member-last, filter-member, filter-stays}
use Rattle.core_model.specs.CoreState.{UnitNo, Member, Version, top, Reading, same_unit}
use Rattle.core_model.specs.Tests.{any}

pub with_reading-member : (rs : List Reading) (u source : UnitNo) (s : Reading) → Member s (with_reading rs u source) → Member s rs ⊎ (s ≡ record { unit = u; source = source })
with_reading-member rs u source s =
    cond_both (any (is_reading_of u) rs) rs (rs ++ record { unit = u; source = source } ∷ []) (λ t. Member s t → Member s rs ⊎ (s ≡ record { unit = u; source = source }))
    (λ e m. inl m)
    (λ e m. elim (Member-append s rs (record { unit = u; source = source } ∷ []) m) [ inl a ↦ inl a | inr a ↦ elim a [ inl q ↦ inr q | inr q ↦ absurd q ] ])

pub with_reading-stays : (rs : List Reading) (u source : UnitNo) (s : Reading) → Member s rs → Member s (with_reading rs u source)
with_reading-stays rs u source s m =
    cond_both (any (is_reading_of u) rs) rs (rs ++ record { unit = u; source = source } ∷ []) (Member s)
    (λ e. m) (λ e. Member-left s rs (record { unit = u; source = source } ∷ []) m)

pub with_reading-has : (rs : List Reading) (u source : UnitNo) → (s : Reading) × Member s (with_reading rs u source) × (s.unit ≡ u)
with_reading-has rs u source =
    cond_both (any (is_reading_of u) rs) rs (rs ++ record { unit = u; source = source } ∷ []) (λ t. (s : Reading) × Member s t × (s.unit ≡ u))
    (λ e. (let t = any-true (is_reading_of u) rs e in (t.0, t.1, same_unit-true _ _ t.2)))
    (λ e. (record { unit = u; source = source }, Member-last (record { unit = u; source = source }) rs, refl))

-- a unit that has a reading keeps it
pub with_reading-same : (rs : List Reading) (u source : UnitNo) (s : Reading) → Member s rs → s.unit ≡ u → with_reading rs u source ≡ rs
with_reading-same rs u source s m q =
    cond_both (any (is_reading_of u) rs) rs (rs ++ record { unit = u; source = source } ∷ []) (λ t. t ≡ rs)
    (λ e. refl)
    (λ e. (let t : true ≡ false = sym (same_unit-is s.unit u q) ∙ any-false (is_reading_of u) rs e s m in cc))

pub without_reading-member : (rs : List Reading) (u : UnitNo) (s : Reading) → Member s (without_reading rs u) → Member s rs × (s.unit ≡ u → ⊥)
without_reading-member rs u s m =
    let t = filter-member (λ r. not (is_reading_of u r)) rs s m in
    (t.0, same_unit-false s.unit u (not-true _ t.1))

pub without_reading-stays : (rs : List Reading) (u : UnitNo) (s : Reading) → Member s rs → (s.unit ≡ u → ⊥) → Member s (without_reading rs u)
without_reading-stays rs u s m n = filter-stays (λ r. not (is_reading_of u r)) rs s m (not_from_false _ (same_unit-not s.unit u n))

pub reads_top-true : (rs : List Reading) (xs : List Version) (u : UnitNo) → reads_top rs xs u ≡ true → (s : Reading) × Member s rs × (s.unit ≡ u) × (s.source ≡ (top xs).unit)
reads_top-true rs xs u e =
    let t = any-true (λ r. is_reading_of u r && same_unit r.source (top xs).unit) rs e in
    let p = and_parts (is_reading_of u t.0) (same_unit t.0.source (top xs).unit) t.2 in
    (t.0, t.1, same_unit-true _ _ p.0, same_unit-true _ _ p.1)

pub reads_top-has : (rs : List Reading) (xs : List Version) (u : UnitNo) (s : Reading) → Member s rs → s.unit ≡ u → s.source ≡ (top xs).unit → reads_top rs xs u ≡ true
reads_top-has rs xs u s m q e = any-member (λ r. is_reading_of u r && same_unit r.source (top xs).unit) rs s m (and_from _ _ (same_unit-is _ _ q) (same_unit-is _ _ e))
