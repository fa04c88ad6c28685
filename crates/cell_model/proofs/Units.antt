-- Tests of units and grains, members, and the oldest of some units.
use Rattle.std.proofs.Common.{◌≡◌, ◌≤◌, List, [], ◌∷◌, ◌++◌, Bool, true, false, ◌⊎◌, inl, inr, refl, sym, ap, ◌∙◌, subst, arith, eqb-true, eq-eqb, ne_eqb, Option, Some, None, filter, nat_lt}
use Rattle.std.specs.Prelude.{◌==◌}
use Rattle.std.specs.List.{list_any as any, list_all as all}
use Rattle.std.proofs.lemmas.Bool.{eqb-false, cond_both, cases_Bool, or_cases, or_parts, and_parts, and_from, or_right, or_left, ltb-true, ltb-false}
use Rattle.cell_model.specs.Units.{UnitNo, GrainId, same_unit, same_grain, older, older_first, oldest, Member}

pub same_unit-true : (a b : UnitNo) → same_unit a b ≡ true → a ≡ b
same_unit-true a b e = (let q : a.0 ≡ b.0 = eqb-true a.0 b.0 e in λ i. record { 0 = q i })

pub same_unit-false : (a b : UnitNo) → same_unit a b ≡ false → a ≡ b → ⊥
same_unit-false a b e q = eqb-false a.0 b.0 e (ap (λ (u : UnitNo). u.0) q)

pub same_unit-is : (a b : UnitNo) → a ≡ b → same_unit a b ≡ true
same_unit-is a b q = eq-eqb a.0 b.0 (ap (λ (u : UnitNo). u.0) q)

pub same_unit-not : (a b : UnitNo) → (a ≡ b → ⊥) → same_unit a b ≡ false
same_unit-not a b n = ne_eqb a.0 b.0 (λ q. n (λ i. record { 0 = q i }))

pub same_grain-true : (a b : GrainId) → same_grain a b ≡ true → a ≡ b
same_grain-true a b e =
    let p = and_parts (a.kind == b.kind) (a.key == b.key) e in
    let k : a.kind ≡ b.kind = eqb-true _ _ p.0 in
    let y : a.key ≡ b.key = eqb-true _ _ p.1 in
    λ i. record { kind = k i; key = y i }

pub same_grain-is : (a b : GrainId) → a ≡ b → same_grain a b ≡ true
same_grain-is a b q = and_from _ _ (eq-eqb _ _ (ap (λ (g : GrainId). g.kind) q)) (eq-eqb _ _ (ap (λ (g : GrainId). g.key) q))

pub same_grain-false : (a b : GrainId) → same_grain a b ≡ false → a ≡ b → ⊥
same_grain-false a b e q = (let t : true ≡ false = sym (same_grain-is a b q) ∙ e in cc)

pub cases_unit : (a b : UnitNo) → (a ≡ b) ⊎ (a ≡ b → ⊥)
cases_unit a b = elim (cases_Bool (same_unit a b)) [ inl e ↦ inl (same_unit-true a b e) | inr e ↦ inr (same_unit-false a b e) ]

pub cases_grain : (a b : GrainId) → (a ≡ b) ⊎ (a ≡ b → ⊥)
cases_grain a b = elim (cases_Bool (same_grain a b)) [ inl e ↦ inl (same_grain-true a b e) | inr e ↦ inr (same_grain-false a b e) ]

pub Member-append : {A : Type 0} (x : A) (xs ys : List A) → Member x (xs ++ ys) → Member x xs ⊎ Member x ys
Member-append x [] ys m = inr m
Member-append x (y ∷ xs) ys (inl e) = inl (inl e)
Member-append x (y ∷ xs) ys (inr m) = elim (Member-append x xs ys m) [ inl h ↦ inl (inl_tail x y xs h) | inr h ↦ inr h ]
  where
    inl_tail : {A : Type 0} (x y : A) (xs : List A) → Member x xs → Member x (y ∷ xs)
    inl_tail x y xs h = inr h

pub Member-left : {A : Type 0} (x : A) (xs ys : List A) → Member x xs → Member x (xs ++ ys)
Member-left x [] ys m = absurd m
Member-left x (y ∷ xs) ys (inl e) = inl e
Member-left x (y ∷ xs) ys (inr m) = inr (Member-left x xs ys m)

pub Member-right : {A : Type 0} (x : A) (xs ys : List A) → Member x ys → Member x (xs ++ ys)
Member-right x [] ys m = m
Member-right x (y ∷ xs) ys m = inr (Member-right x xs ys m)

pub Member-last : {A : Type 0} (x : A) (xs : List A) → Member x (xs ++ x ∷ [])
Member-last x [] = inl refl
Member-last x (y ∷ xs) = inr (Member-last x xs)

pub any-true : {A : Type 0} (p : A → Bool) (xs : List A) → any p xs ≡ true → (x : A) × Member x xs × (p x ≡ true)
any-true p [] e = cc
any-true p (x ∷ xs) e =
    elim (or_cases (p x) (any p xs) e) [
      | inl h ↦ (x, inl refl, h)
      | inr h ↦ (let t = any-true p xs h in (t.0, inr t.1, t.2))
    ]

pub any-false : {A : Type 0} (p : A → Bool) (xs : List A) → any p xs ≡ false → (x : A) → Member x xs → p x ≡ false
any-false p [] e x m = absurd m
any-false p (y ∷ xs) e x (inl h) = ap p h ∙ (or_parts (p y) (any p xs) e).0
any-false p (y ∷ xs) e x (inr h) = any-false p xs (or_parts (p y) (any p xs) e).1 x h

pub any-none : {A : Type 0} (p : A → Bool) (xs : List A) → ((x : A) → Member x xs → p x ≡ false) → any p xs ≡ false
any-none p [] h = refl
any-none p (x ∷ xs) h = elim (cases_Bool (any p (x ∷ xs))) [
  | inl e ↦ (let t = any-true p (x ∷ xs) e in let z : true ≡ false = sym t.2 ∙ h t.0 t.1 in cc)
  | inr e ↦ e
]

pub any-member : {A : Type 0} (p : A → Bool) (xs : List A) (x : A) → Member x xs → p x ≡ true → any p xs ≡ true
any-member p [] x m e = absurd m
any-member p (y ∷ xs) x (inl h) e = or_left (p y) (any p xs) (ap p (sym h) ∙ e)
any-member p (y ∷ xs) x (inr h) e = or_right (p y) (any p xs) (any-member p xs x h e)

pub all-true : {A : Type 0} (p : A → Bool) (xs : List A) → all p xs ≡ true → (x : A) → Member x xs → p x ≡ true
all-true p [] e x m = absurd m
all-true p (y ∷ xs) e x (inl h) = ap p h ∙ (and_parts (p y) (all p xs) e).0
all-true p (y ∷ xs) e x (inr h) = all-true p xs (and_parts (p y) (all p xs) e).1 x h

-- what a filter keeps
pub filter-member : {A : Type 0} (p : A → Bool) (xs : List A) (x : A) → Member x (filter p xs) → Member x xs × (p x ≡ true)
filter-member p [] x m = absurd m
filter-member p (y ∷ xs) x m =
    cond_both (p y) (y ∷ filter p xs) (filter p xs) (λ t. Member x t → Member x (y ∷ xs) × (p x ≡ true))
    (λ e m'. elim m' [
      | inl q ↦ (inl q, ap p q ∙ e)
      | inr q ↦ (let t = filter-member p xs x q in (inr t.0, t.1))
    ])
    (λ e m'. (let t = filter-member p xs x m' in (inr t.0, t.1)))
    m

pub filter-stays : {A : Type 0} (p : A → Bool) (xs : List A) (x : A) → Member x xs → p x ≡ true → Member x (filter p xs)
filter-stays p [] x m e = absurd m
filter-stays p (y ∷ xs) x m e =
    cond_both (p y) (y ∷ filter p xs) (filter p xs) (Member x)
    (λ t. elim m [ inl q ↦ inl q | inr q ↦ inr (filter-stays p xs x q e) ])
    (λ f. elim m [ inl q ↦ (let z : true ≡ false = sym e ∙ ap p q ∙ f in cc) | inr q ↦ filter-stays p xs x q e ])

older-first : (a b : UnitNo) → (older a b).0 ≤ a.0
older-first a b = cond_both (nat_lt a.0 b.0) a b (λ t. t.0 ≤ a.0) (λ e. omega arith) (λ e. ltb-false _ _ e)

older-second : (a b : UnitNo) → (older a b).0 ≤ b.0
older-second a b = cond_both (nat_lt a.0 b.0) a b (λ t. t.0 ≤ b.0) (λ e. (let t = ltb-true _ _ e in omega (arith, t))) (λ e. omega arith)

older-one : (a b : UnitNo) → (older a b ≡ a) ⊎ (older a b ≡ b)
older-one a b = cond_both (nat_lt a.0 b.0) a b (λ t. (t ≡ a) ⊎ (t ≡ b)) (λ e. inl refl) (λ e. inr refl)

pub oldest-none : (us : List UnitNo) → oldest us ≡ None → us ≡ []
oldest-none [] e = refl
oldest-none (x ∷ xs) e = go (oldest xs) e
  where
    go : (o : Option UnitNo) → older_first x o ≡ None → (x ∷ xs) ≡ []
    go None t = cc
    go (Some y) t = cc

-- the oldest is one of them, and none is older
pub oldest-some : (us : List UnitNo) (u : UnitNo) → oldest us ≡ Some u → Member u us × ((v : UnitNo) → Member v us → u.0 ≤ v.0)
oldest-some [] u e = cc
oldest-some (x ∷ xs) u e = go (λ y q. oldest-some xs y q) (oldest xs) refl e
  where
    go : ((y : UnitNo) → oldest xs ≡ Some y → Member y xs × ((v : UnitNo) → Member v xs → y.0 ≤ v.0)) → (o : Option UnitNo) → oldest xs ≡ o → older_first x o ≡ Some u → Member u (x ∷ xs) × ((v : UnitNo) → Member v (x ∷ xs) → u.0 ≤ v.0)
    go below None q t =
        let is : x ≡ u = cc in (
          inl (sym is),
          λ v m. elim m [
            | inl h ↦ omega (arith, ap (λ (z : UnitNo). z.0) is, ap (λ (z : UnitNo). z.0) h)
            | inr h ↦ absurd (subst (Member v) (oldest-none xs q) h)
          ],
        )
    go below (Some y) q t =
        let is : older x y ≡ u = cc in
        let h = below y q in (
          elim (older-one x y) [
            | inl a ↦ inl (sym is ∙ a)
            | inr a ↦ inr (subst (λ z. Member z xs) (sym a ∙ is) h.0)
          ],
          λ v m. elim m [
            | inl k ↦ omega (arith, older-first x y, ap (λ (z : UnitNo). z.0) is, ap (λ (z : UnitNo). z.0) k)
            | inr k ↦ omega (arith, older-second x y, h.1 v k, ap (λ (z : UnitNo). z.0) is)
          ],
        )
