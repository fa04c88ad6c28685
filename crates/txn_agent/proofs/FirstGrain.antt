-- The first of some grains.
use Rattle.std.proofs.Common.{◌≡◌, ◌<◌, List, [], ◌∷◌, true, false, ◌⊎◌, inl, inr, refl, sym, ◌∙◌, subst, arith, Option, Some, None}
use Rattle.std.specs.Prelude.{if◌then◌else◌}
use Rattle.std.proofs.lemmas.Bool.{cases_Bool, cond-true, cond-false}
use Rattle.core_model.specs.CoreState.{GrainId, Member}
use Rattle.core_model.specs.Tests.{is_before, first_of_two, first_grain}
use Rattle.core_laws.proofs.Failures.{before-true, before-false}

from-false : (a b : GrainId) → ((a.kind < b.kind) ⊎ ((a.kind ≡ b.kind) × (a.key < b.key)) → ⊥) → is_before a b ≡ false
from-false a b n = elim (cases_Bool (is_before a b)) [ inl e ↦ absurd (n (before-true a b e)) | inr e ↦ e ]

not-itself : (g : GrainId) → is_before g g ≡ false
not-itself g = from-false g g (λ o. elim o [ inl l ↦ omega (arith, l) | inr l ↦ omega (arith, l.1) ])

not-back : (k g : GrainId) → is_before k g ≡ true → is_before g k ≡ false
not-back k g e = from-false g k (λ o. elim (before-true k g e) [
  | inl l ↦ elim o [ inl m ↦ omega (arith, l, m) | inr m ↦ omega (arith, l, m.0) ]
  | inr l ↦ elim o [ inl m ↦ omega (arith, l.0, m) | inr m ↦ omega (arith, l.1, m.1) ]
])

not-through : (x k g : GrainId) → is_before x k ≡ false → is_before k g ≡ false → is_before x g ≡ false
not-through x k g a b = from-false x g (λ o. elim (before-false x k a) [
  | inl p ↦ elim (before-false k g b) [
    | inl q ↦ elim o [ inl m ↦ omega (arith, p, q, m) | inr m ↦ omega (arith, p, q, m.0) ]
    | inr q ↦ elim o [ inl m ↦ omega (arith, p, q.0, m) | inr m ↦ omega (arith, p, q.0, m.0) ]
  ]
  | inr p ↦ elim (before-false k g b) [
    | inl q ↦ elim o [ inl m ↦ omega (arith, p.0, q, m) | inr m ↦ omega (arith, p.0, q, m.0) ]
    | inr q ↦ elim o [ inl m ↦ omega (arith, p.0, q.0, m) | inr m ↦ omega (arith, p.1, q.1, m.1) ]
  ]
])

pub first_grain-none : (gs : List GrainId) → first_grain gs ≡ None → gs ≡ []
first_grain-none [] e = refl
first_grain-none (g ∷ gs) e = go (first_grain gs) e
  where
    go : (o : Option GrainId) → first_of_two g o ≡ None → (g ∷ gs) ≡ []
    go None t = cc
    go (Some k) t = cc

-- the first is one of them, and none comes before it
pub first_grain-some : (gs : List GrainId) (g : GrainId) → first_grain gs ≡ Some g → Member g gs × ((k : GrainId) → Member k gs → is_before k g ≡ false)
first_grain-some [] g e = cc
first_grain-some (x ∷ xs) g e = go (λ y q. first_grain-some xs y q) (first_grain xs) refl e
  where
    go : ((y : GrainId) → first_grain xs ≡ Some y → Member y xs × ((k : GrainId) → Member k xs → is_before k y ≡ false)) →
        (o : Option GrainId) → first_grain xs ≡ o → first_of_two x o ≡ Some g → Member g (x ∷ xs) × ((k : GrainId) → Member k (x ∷ xs) → is_before k g ≡ false)
    go rest None q t =
        let is : x ≡ g = cc in (
          inl (sym is),
          λ k m. elim m [
            | inl h ↦ (λ i. is_before (h i) (sym is i)) ∙ not-itself x
            | inr h ↦ absurd (subst (Member k) (first_grain-none xs q) h)
          ],
        )
    go rest (Some y) q t =
        let h = rest y q in
        elim (cases_Bool (is_before y x)) [
          | inl b ↦ (let pick : (if is_before y x then y else x) ≡ y = cond-true (is_before y x) y x b in
              let is : (if is_before y x then y else x) ≡ g = cc in
              let same : y ≡ g = sym pick ∙ is in (
                inr (subst (λ z. Member z xs) same h.0),
                λ k m. elim m [
                  | inl z ↦ (λ i. is_before (z i) (sym same i)) ∙ not-back y x b
                  | inr z ↦ subst (λ n. is_before k n ≡ false) same (h.1 k z)
                ],
              ))
          | inr b ↦ (let pick : (if is_before y x then y else x) ≡ x = cond-false (is_before y x) y x b in
              let is : (if is_before y x then y else x) ≡ g = cc in
              let same : x ≡ g = sym pick ∙ is in (
                inl (sym same),
                λ k m. elim m [
                  | inl z ↦ (λ i. is_before (z i) (sym same i)) ∙ not-itself x
                  | inr z ↦ subst (λ n. is_before k n ≡ false) same (not-through k y x (h.1 k z) b)
                ],
              ))
        ]
