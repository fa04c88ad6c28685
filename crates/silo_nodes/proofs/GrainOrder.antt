-- Grains that ascend are different.
use Rattle.std.proofs.Common.{◌≡◌, ◌<◌, List, [], ◌∷◌, Bool, true, false, not, inl, inr, refl, sym, ap, ◌∙◌, subst, arith, eqb-true, eq-eqb}
use Rattle.std.specs.Prelude.{◌||◌, ◌&&◌, ◌==◌, nat_lt}
use Rattle.std.proofs.lemmas.Bool.{cases_Bool, or_cases, or_left, or_right, and_parts, and_from, ltb-true, lt-ltb}
use Rattle.silo_nodes.specs.Packets.{any, all, GrainId, Shift, same_grain, touches, is_apart, is_before, is_ascending, Member}
use Rattle.silo_nodes.proofs.Lists.{same_grain-true, clash, any-true, all-true}

-- what comes before is before what comes after
before-trans : (a b c : GrainId) → is_before a b ≡ true → is_before b c ≡ true → is_before a c ≡ true
before-trans a b c x y = elim (or_cases (nat_lt a.kind b.kind) _ x) [
  | inl ab ↦ elim (or_cases (nat_lt b.kind c.kind) _ y) [
    | inl bc ↦ (let p = ltb-true _ _ ab in let q = ltb-true _ _ bc in or_left _ _ (lt-ltb a.kind c.kind (omega (arith, p, q))))
    | inr bc ↦ (let p = ltb-true _ _ ab in let q = eqb-true b.kind c.kind (and_parts (b.kind == c.kind) _ bc).0 in or_left _ _ (lt-ltb a.kind c.kind (omega (arith, p, q))))
  ]
  | inr ab ↦ (let r = eqb-true a.kind b.kind (and_parts (a.kind == b.kind) _ ab).0 in let s = ltb-true _ _ (and_parts (a.kind == b.kind) _ ab).1 in
      elim (or_cases (nat_lt b.kind c.kind) _ y) [
        | inl bc ↦ (let q = ltb-true _ _ bc in or_left _ _ (lt-ltb a.kind c.kind (omega (arith, r, q))))
        | inr bc ↦ (let q = eqb-true b.kind c.kind (and_parts (b.kind == c.kind) _ bc).0 in let t = ltb-true _ _ (and_parts (b.kind == c.kind) _ bc).1 in
            or_right (nat_lt a.kind c.kind) _ (and_from _ _ (eq-eqb a.kind c.kind (r ∙ q)) (lt-ltb a.key c.key (omega (arith, s, t)))))
      ])
]

before-other : (a : GrainId) → is_before a a ≡ true → ⊥
before-other a x = elim (or_cases (nat_lt a.kind a.kind) _ x) [
  | inl h ↦ (let p = ltb-true _ _ h in omega (arith, p))
  | inr h ↦ (let p = ltb-true _ _ (and_parts (a.kind == a.kind) _ h).1 in omega (arith, p))
]

-- the first comes before all others
first-before : (x : Shift) (xs : List Shift) → is_ascending (x ∷ xs) ≡ true → (y : Shift) → Member y xs → is_before x.grain y.grain ≡ true
first-before x [] e y m = absurd m
first-before x (z ∷ zs) e y (inl q) = ap (λ (s : Shift). is_before x.grain s.grain) q ∙ (and_parts (is_before x.grain z.grain) _ e).0
first-before x (z ∷ zs) e y (inr m) =
    let p = and_parts (is_before x.grain z.grain) (is_ascending (z ∷ zs)) e in
    before-trans x.grain z.grain y.grain p.0 (first-before z zs p.1 y m)

untouched : (x : Shift) (xs : List Shift) → is_ascending (x ∷ xs) ≡ true → touches x.grain xs ≡ false
untouched x xs e = elim (cases_Bool (touches x.grain xs)) [
  | inl h ↦ (let y = any-true (λ (z : Shift). same_grain z.grain x.grain) xs h in
      absurd (before-other x.grain (subst (λ g. is_before x.grain g ≡ true) (same_grain-true y.0.grain x.grain y.2) (first-before x xs e y.0 y.1))))
  | inr h ↦ h
]

rest-ascends : (x : Shift) (xs : List Shift) → is_ascending (x ∷ xs) ≡ true → is_ascending xs ≡ true
rest-ascends x [] e = refl
rest-ascends x (y ∷ ys) e = (and_parts (is_before x.grain y.grain) (is_ascending (y ∷ ys)) e).1

pub ascending-apart : (s : List Shift) → is_ascending s ≡ true → is_apart s ≡ true
ascending-apart [] e = refl
ascending-apart (x ∷ xs) e = and_from (not (touches x.grain xs)) (is_apart xs) (ap not (untouched x xs e)) (ascending-apart xs (rest-ascends x xs e))
