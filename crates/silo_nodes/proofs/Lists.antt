-- Members of lists, tests of transactions and grains.
use Rattle.std.proofs.Common.{◌≡◌, ℕ, ◌<◌, length, get_or, zero, suc, List, [], ◌∷◌, ◌++◌, Bool, true, false, not, ◌⊎◌, inl, inr, refl, sym, ap, ◌∙◌, arith, eqb-true, eq-eqb, filter, map}
use Rattle.std.specs.Prelude.{◌==◌, ◌||◌}
use Rattle.std.proofs.lemmas.Bool.{cond_both, cases_Bool, or_cases, or_parts, and_parts, and_from, or_right, or_left}
use Rattle.silo_nodes.specs.Packets.{any, all, GrainId, TxnId, same_txn, same_grain, Member, Distinct}

pub same_txn-true : (a b : TxnId) → same_txn a b ≡ true → a ≡ b
same_txn-true a b e =
    let p = and_parts (a.epoch == b.epoch) (a.number == b.number) e in
    let k : a.epoch ≡ b.epoch = eqb-true _ _ p.0 in
    let y : a.number ≡ b.number = eqb-true _ _ p.1 in
    λ i. record { epoch = k i; number = y i }

pub same_txn-is : (a b : TxnId) → a ≡ b → same_txn a b ≡ true
same_txn-is a b q = and_from _ _ (eq-eqb _ _ (ap (λ (g : TxnId). g.epoch) q)) (eq-eqb _ _ (ap (λ (g : TxnId). g.number) q))

pub same_txn-self : (a : TxnId) → same_txn a a ≡ true
same_txn-self a = same_txn-is a a refl

pub same_txn-not : (a b : TxnId) → (a ≡ b → ⊥) → same_txn a b ≡ false
same_txn-not a b n = elim (cases_Bool (same_txn a b)) [ inl e ↦ absurd (n (same_txn-true a b e)) | inr e ↦ e ]

pub same_txn-false : (a b : TxnId) → same_txn a b ≡ false → a ≡ b → ⊥
same_txn-false a b e q = (let t : true ≡ false = sym (same_txn-is a b q) ∙ e in cc)

pub same_grain-true : (a b : GrainId) → same_grain a b ≡ true → a ≡ b
same_grain-true a b e =
    let p = and_parts (a.kind == b.kind) (a.key == b.key) e in
    let k : a.kind ≡ b.kind = eqb-true _ _ p.0 in
    let y : a.key ≡ b.key = eqb-true _ _ p.1 in
    λ i. record { kind = k i; key = y i }

pub same_grain-is : (a b : GrainId) → a ≡ b → same_grain a b ≡ true
same_grain-is a b q = and_from _ _ (eq-eqb _ _ (ap (λ (g : GrainId). g.kind) q)) (eq-eqb _ _ (ap (λ (g : GrainId). g.key) q))

pub cases_txn : (a b : TxnId) → (a ≡ b) ⊎ (a ≡ b → ⊥)
cases_txn a b = elim (cases_Bool (same_txn a b)) [ inl e ↦ inl (same_txn-true a b e) | inr e ↦ inr (same_txn-false a b e) ]

-- no and yes at once
pub clash : {A : Type 0} (b : Bool) → b ≡ true → b ≡ false → A
clash b t f = (let z : true ≡ false = sym t ∙ f in absurd (no z))
  where
    no : true ≡ false → ⊥
    no z = cc

pub not-true : (b : Bool) → not b ≡ true → b ≡ false
not-true true e = cc
not-true false e = refl

pub Member-append : {A : Type 0} (x : A) (xs ys : List A) → Member x (xs ++ ys) → Member x xs ⊎ Member x ys
Member-append x [] ys m = inr m
Member-append x (y ∷ xs) ys (inl e) = inl (inl e)
Member-append x (y ∷ xs) ys (inr m) = elim (Member-append x xs ys m) [ inl h ↦ inl (inl_tail x y xs h) | inr h ↦ inr h ]
  where
    inl_tail : {A : Type 0} (x y : A) (xs : List A) → Member x xs → Member x (y ∷ xs)
    inl_tail x y xs h = inr h

pub Member-left : {A : Type 0} (x : A) (xs ys : List A) → Member x xs → Member x (xs ++ ys)
Member-left x [] ys m = absurd m
Member-left x (y ∷ xs) ys (inl e) = inl e
Member-left x (y ∷ xs) ys (inr m) = inr (Member-left x xs ys m)

pub Member-right : {A : Type 0} (x : A) (xs ys : List A) → Member x ys → Member x (xs ++ ys)
Member-right x [] ys m = m
Member-right x (y ∷ xs) ys m = inr (Member-right x xs ys m)

pub Member-last : {A : Type 0} (x : A) (xs : List A) → Member x (xs ++ x ∷ [])
Member-last x [] = inl refl
Member-last x (y ∷ xs) = inr (Member-last x xs)

-- of a list with one more at its end
pub Member-one : {A : Type 0} (x y : A) (xs : List A) → Member x (xs ++ y ∷ []) → Member x xs ⊎ (x ≡ y)
Member-one x y xs m = elim (Member-append x xs (y ∷ []) m) [ inl h ↦ inl h | inr h ↦ elim h [ inl e ↦ inr e | inr z ↦ absurd z ] ]

pub Member-get : {A : Type 0} (d : A) (xs : List A) (i : ℕ) → i < length xs → Member (get_or xs i d) xs
Member-get d [] i h = absurd (omega arith)
Member-get d (x ∷ xs) zero h = inl refl
Member-get d (x ∷ xs) (suc i) h = inr (Member-get d xs i (omega arith))

pub Distinct-last : {A : Type 0} (xs : List A) (x : A) → Distinct xs → (Member x xs → ⊥) → Distinct (xs ++ x ∷ [])
Distinct-last [] x d n = ((λ m. m), tt)
Distinct-last (y ∷ xs) x d n = (
  (λ m. elim (Member-one y x xs m) [ inl h ↦ d.0 h | inr e ↦ n (inl (sym e)) ]),
  Distinct-last xs x d.1 (λ m. n (inr m)),
)

pub any-true : {A : Type 0} (p : A → Bool) (xs : List A) → any p xs ≡ true → (x : A) × Member x xs × (p x ≡ true)
any-true p [] e = cc
any-true p (x ∷ xs) e =
    elim (or_cases (p x) (any p xs) e) [
      | inl h ↦ (x, inl refl, h)
      | inr h ↦ (let t = any-true p xs h in (t.0, inr t.1, t.2))
    ]

pub any-false : {A : Type 0} (p : A → Bool) (xs : List A) → any p xs ≡ false → (x : A) → Member x xs → p x ≡ false
any-false p [] e x m = absurd m
any-false p (y ∷ xs) e x (inl h) = ap p h ∙ (or_parts (p y) (any p xs) e).0
any-false p (y ∷ xs) e x (inr h) = any-false p xs (or_parts (p y) (any p xs) e).1 x h

pub any-member : {A : Type 0} (p : A → Bool) (xs : List A) (x : A) → Member x xs → p x ≡ true → any p xs ≡ true
any-member p [] x m e = absurd m
any-member p (y ∷ xs) x (inl h) e = or_left (p y) (any p xs) (ap p (sym h) ∙ e)
any-member p (y ∷ xs) x (inr h) e = or_right (p y) (any p xs) (any-member p xs x h e)

-- a test of a list with one more at its end
pub any-last : {A : Type 0} (p : A → Bool) (xs : List A) (x : A) → p x ≡ false → any p (xs ++ x ∷ []) ≡ any p xs
any-last p [] x e = grind (arith, e)
any-last p (y ∷ xs) x e = ap (λ b. p y || b) (any-last p xs x e)

pub any-grows : {A : Type 0} (p : A → Bool) (xs : List A) (x : A) → any p xs ≡ true → any p (xs ++ x ∷ []) ≡ true
any-grows p xs x e = (let t = any-true p xs e in any-member p (xs ++ x ∷ []) t.0 (Member-left t.0 xs (x ∷ []) t.1) t.2)

pub any-shrinks : {A : Type 0} (p : A → Bool) (xs : List A) (x : A) → any p (xs ++ x ∷ []) ≡ false → any p xs ≡ false
any-shrinks p xs x e = elim (cases_Bool (any p xs)) [ inl h ↦ clash (any p (xs ++ x ∷ [])) (any-grows p xs x h) e | inr h ↦ h ]

pub all-true : {A : Type 0} (p : A → Bool) (xs : List A) → all p xs ≡ true → (x : A) → Member x xs → p x ≡ true
all-true p [] e x m = absurd m
all-true p (y ∷ xs) e x (inl h) = ap p h ∙ (and_parts (p y) (all p xs) e).0
all-true p (y ∷ xs) e x (inr h) = all-true p xs (and_parts (p y) (all p xs) e).1 x h

-- what a filter keeps
pub filter-member : {A : Type 0} (p : A → Bool) (xs : List A) (x : A) → Member x (filter p xs) → Member x xs × (p x ≡ true)
filter-member p [] x m = absurd m
filter-member p (y ∷ xs) x m =
    cond_both (p y) (y ∷ filter p xs) (filter p xs) (λ t. Member x t → Member x (y ∷ xs) × (p x ≡ true))
    (λ e m'. elim m' [
      | inl q ↦ (inl q, ap p q ∙ e)
      | inr q ↦ (let t = filter-member p xs x q in (inr t.0, t.1))
    ])
    (λ e m'. (let t = filter-member p xs x m' in (inr t.0, t.1)))
    m

-- what a map makes
pub map-member : {A B : Type 0} (f : A → B) (xs : List A) (y : B) → Member y (map f xs) → (x : A) × Member x xs × (y ≡ f x)
map-member f [] y m = absurd m
map-member f (x ∷ xs) y (inl e) = (x, inl refl, e)
map-member f (x ∷ xs) y (inr m) = (let t = map-member f xs y m in (t.0, inr t.1, t.2))
