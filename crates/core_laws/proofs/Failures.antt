-- The first of some grains, and the first whose file failed.
use Rattle.std.proofs.Common.{◌≡◌, ◌<◌, ◌≤◌, List, [], ◌∷◌, Bool, true, false, ◌&&◌, ◌⊎◌, inl, inr, refl, sym, ◌∙◌, subst, arith, Option, Some, None, filter, map, nat_lt, eqb-true}
use Rattle.std.specs.Prelude.{◌==◌, if◌then◌else◌}
use Rattle.std.proofs.lemmas.Bool.{cases_Bool, or_cases, or_parts, and_parts, and_cases, ltb-true, ltb-false, eqb-false, cond-true, cond-false, cases_order}
use Rattle.cell_model.proofs.Units.{same_grain-true, same_grain-is, filter-member, filter-stays}
use Rattle.core_model.specs.CoreState.{GrainId, Member, Value, Write, same_grain}
use Rattle.core_model.specs.Tests.{state_written, is_before, first_of_two, first_grain, has_failed, failed_in}

pub before-true : (a b : GrainId) → is_before a b ≡ true → (a.kind < b.kind) ⊎ ((a.kind ≡ b.kind) × (a.key < b.key))
before-true a b e = elim (or_cases (nat_lt a.kind b.kind) _ e) [
  | inl l ↦ inl (ltb-true _ _ l)
  | inr l ↦ (let p = and_parts (a.kind == b.kind) _ l in inr (eqb-true _ _ p.0, ltb-true _ _ p.1))
]

pub before-false : (a b : GrainId) → is_before a b ≡ false → (b.kind < a.kind) ⊎ ((a.kind ≡ b.kind) × (b.key ≤ a.key))
before-false a b e =
    let p = or_parts (nat_lt a.kind b.kind) ((a.kind == b.kind) && nat_lt a.key b.key) e in
    let le = ltb-false a.kind b.kind p.0 in
    elim (cases_order a.kind b.kind) [
      | inl q ↦ elim (and_cases (a.kind == b.kind) (nat_lt a.key b.key) p.1) [
        | inl n ↦ absurd (eqb-false _ _ n q)
        | inr n ↦ inr (q, ltb-false _ _ n)
      ]
      | inr o ↦ elim o [ inl l ↦ absurd (omega (arith, l, le)) | inr l ↦ inl l ]
    ]

from-false : (a b : GrainId) → ((a.kind < b.kind) ⊎ ((a.kind ≡ b.kind) × (a.key < b.key)) → ⊥) → is_before a b ≡ false
from-false a b n = elim (cases_Bool (is_before a b)) [ inl e ↦ absurd (n (before-true a b e)) | inr e ↦ e ]

not-itself : (g : GrainId) → is_before g g ≡ false
not-itself g = from-false g g (λ o. elim o [ inl l ↦ omega (arith, l) | inr l ↦ omega (arith, l.1) ])

not-back : (k g : GrainId) → is_before k g ≡ true → is_before g k ≡ false
not-back k g e = from-false g k (λ o. elim (before-true k g e) [
  | inl l ↦ elim o [ inl m ↦ omega (arith, l, m) | inr m ↦ omega (arith, l, m.0) ]
  | inr l ↦ elim o [ inl m ↦ omega (arith, l.0, m) | inr m ↦ omega (arith, l.1, m.1) ]
])

not-through : (x k g : GrainId) → is_before x k ≡ false → is_before k g ≡ false → is_before x g ≡ false
not-through x k g a b = from-false x g (λ o. elim (before-false x k a) [
  | inl p ↦ elim (before-false k g b) [
    | inl q ↦ elim o [ inl m ↦ omega (arith, p, q, m) | inr m ↦ omega (arith, p, q, m.0) ]
    | inr q ↦ elim o [ inl m ↦ omega (arith, p, q.0, m) | inr m ↦ omega (arith, p, q.0, m.0) ]
  ]
  | inr p ↦ elim (before-false k g b) [
    | inl q ↦ elim o [ inl m ↦ omega (arith, p.0, q, m) | inr m ↦ omega (arith, p.0, q, m.0) ]
    | inr q ↦ elim o [ inl m ↦ omega (arith, p.0, q.0, m) | inr m ↦ omega (arith, p.1, q.1, m.1) ]
  ]
])

first_grain-none : (gs : List GrainId) → first_grain gs ≡ None → gs ≡ []
first_grain-none [] e = refl
first_grain-none (g ∷ gs) e = go (first_grain gs) e
  where
    go : (o : Option GrainId) → first_of_two g o ≡ None → (g ∷ gs) ≡ []
    go None t = cc
    go (Some k) t = cc

-- the first is one of them, and none comes before it
pub first_grain-some : (gs : List GrainId) (g : GrainId) → first_grain gs ≡ Some g → Member g gs × ((k : GrainId) → Member k gs → is_before k g ≡ false)
first_grain-some [] g e = cc
first_grain-some (x ∷ xs) g e = go (λ y q. first_grain-some xs y q) (first_grain xs) refl e
  where
    go : ((y : GrainId) → first_grain xs ≡ Some y → Member y xs × ((k : GrainId) → Member k xs → is_before k y ≡ false)) →
        (o : Option GrainId) → first_grain xs ≡ o → first_of_two x o ≡ Some g → Member g (x ∷ xs) × ((k : GrainId) → Member k (x ∷ xs) → is_before k g ≡ false)
    go rest None q t =
        let is : x ≡ g = cc in (
          inl (sym is),
          λ k m. elim m [
            | inl h ↦ (λ i. is_before (h i) (sym is i)) ∙ not-itself x
            | inr h ↦ absurd (subst (Member k) (first_grain-none xs q) h)
          ],
        )
    go rest (Some y) q t =
        let h = rest y q in
        elim (cases_Bool (is_before y x)) [
          | inl b ↦ (let pick : (if is_before y x then y else x) ≡ y = cond-true (is_before y x) y x b in
              let is : (if is_before y x then y else x) ≡ g = cc in
              let same : y ≡ g = sym pick ∙ is in (
                inr (subst (λ z. Member z xs) same h.0),
                λ k m. elim m [
                  | inl z ↦ (λ i. is_before (z i) (sym same i)) ∙ not-back y x b
                  | inr z ↦ subst (λ n. is_before k n ≡ false) same (h.1 k z)
                ],
              ))
          | inr b ↦ (let pick : (if is_before y x then y else x) ≡ x = cond-false (is_before y x) y x b in
              let is : (if is_before y x then y else x) ≡ g = cc in
              let same : x ≡ g = sym pick ∙ is in (
                inl (sym same),
                λ k m. elim m [
                  | inl z ↦ (λ i. is_before (z i) (sym same i)) ∙ not-itself x
                  | inr z ↦ subst (λ n. is_before k n ≡ false) same (not-through k y x (h.1 k z) b)
                ],
              ))
        ]

-- the grains that are named are those that are written
pub named-written : (g : GrainId) (xs : List Write) → Member g (map (λ x. x.0) xs) → (v : List Value) × (state_written g xs ≡ Some v)
named-written g [] m = absurd m
named-written g (x ∷ xs) m = elim (cases_Bool (same_grain x.0 g)) [
  | inl e ↦ (x.1, cond-true (same_grain x.0 g) (Some x.1) (state_written g xs) e)
  | inr e ↦ elim m [
    | inl q ↦ (let z : true ≡ false = sym (same_grain-is x.0 g (sym q)) ∙ e in cc)
    | inr q ↦ (let t = named-written g xs q in (t.0, cond-false (same_grain x.0 g) (Some x.1) (state_written g xs) e ∙ t.1))
  ]
]

pub written-named : (g : GrainId) (v : List Value) (xs : List Write) → state_written g xs ≡ Some v → Member g (map (λ x. x.0) xs)
written-named g v [] e = cc
written-named g v (x ∷ xs) e = elim (cases_Bool (same_grain x.0 g)) [
  | inl s ↦ inl (sym (same_grain-true _ _ s))
  | inr s ↦ inr (written-named g v xs (sym (cond-false (same_grain x.0 g) (Some x.1) (state_written g xs) s) ∙ e))
]

-- the first grain whose file failed
pub failed-some : (votes : List (GrainId × Bool)) (ws : List Write) (g : GrainId) → failed_in votes ws ≡ Some g →
    ((v : List Value) × (state_written g ws ≡ Some v)) × (has_failed votes g ≡ true) × ((k : GrainId) → (v : List Value) × (state_written k ws ≡ Some v) → has_failed votes k ≡ true → is_before k g ≡ false)
failed-some votes ws g e =
    let t = first_grain-some (filter (has_failed votes) (map (λ x. x.0) ws)) g e in
    let m = filter-member (has_failed votes) (map (λ x. x.0) ws) g t.0 in
    (named-written g ws m.0, m.1, λ k w f. t.1 k (filter-stays (has_failed votes) (map (λ x. x.0) ws) k (written-named k w.0 ws w.1) f))

pub failed-none : (votes : List (GrainId × Bool)) (ws : List Write) → failed_in votes ws ≡ None → (k : GrainId) → (v : List Value) × (state_written k ws ≡ Some v) → has_failed votes k ≡ false
failed-none votes ws e k w = elim (cases_Bool (has_failed votes k)) [
  | inl f ↦ absurd (subst (Member k) (first_grain-none _ e) (filter-stays (has_failed votes) (map (λ x. x.0) ws) k (written-named k w.0 ws w.1) f))
  | inr f ↦ f
]
