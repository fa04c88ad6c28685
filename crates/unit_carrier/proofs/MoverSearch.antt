-- The mover at a place among carried units, looked for from the front.
use Rattle.std.proofs.Common.{◌≡◌, ℕ, ◌+◌, zero, suc, List, [], ◌∷◌, length, Bool, true, false, refl, sym, ap, ◌∙◌, subst, arith, map, Some}
use Rattle.std.specs.Prelude.{filter, if◌then◌else◌, take, slice_get, slice_set}
use Rattle.std.specs.List.{AllByRecursion}

-- how many of the first pass, with the next
pub one-more : {A : Type 0} (p : A → Bool) (xs : List A) (i : ℕ) (x : A) → slice_get xs i ≡ Some x
    → length (filter p (take (suc i) xs)) ≡ length (filter p (take i xs)) + (if p x then 1 else 0)
one-more p [] i x q = absurd cc
one-more {A} p (y ∷ xs) zero x q = by (p x) (ap p (same y x q))
  where
    same : (a b : A) → Some a ≡ Some b → a ≡ b
    same a b e = cc

    by : (b : Bool) → p y ≡ b → length (if p y then y ∷ filter p (take zero xs) else filter p (take zero xs)) ≡ 0 + (if b then 1 else 0)
    by true e = subst (λ (c : Bool). length (if c then y ∷ filter p (take zero xs) else filter p (take zero xs)) ≡ 1) (sym e) refl
    by false e = subst (λ (c : Bool). length (if c then y ∷ filter p (take zero xs) else filter p (take zero xs)) ≡ 0) (sym e) refl
one-more p (y ∷ xs) (suc i) x q = by (p y) (one-more p xs i x q)
  where
    by : (b : Bool) → length (filter p (take (suc i) xs)) ≡ length (filter p (take i xs)) + (if p x then 1 else 0)
        → length (if b then y ∷ filter p (take (suc i) xs) else filter p (take (suc i) xs)) ≡ length (if b then y ∷ filter p (take i xs) else filter p (take i xs)) + (if p x then 1 else 0)
    by true e = ap suc e ∙ ahead (length (filter p (take i xs))) (if p x then 1 else 0)
      where
        ahead : (m n : ℕ) → suc (m + n) ≡ suc m + n
        ahead m n = omega arith
    by false e = e

-- one that passes stands among those that pass behind those of the first
pub stands-at : {A : Type 0} (p : A → Bool) (xs : List A) (i : ℕ) (x : A) → slice_get xs i ≡ Some x → p x ≡ true
    → slice_get (filter p xs) (length (filter p (take i xs))) ≡ Some x
stands-at p [] i x q h = absurd cc
stands-at {A} p (y ∷ xs) zero x q h =
    subst (λ (c : Bool). slice_get (if c then y ∷ filter p xs else filter p xs) 0 ≡ Some x) (sym (ap p (same y x q) ∙ h)) q
  where
    same : (a b : A) → Some a ≡ Some b → a ≡ b
    same a b e = cc
stands-at p (y ∷ xs) (suc i) x q h = by (p y) (stands-at p xs i x q h)
  where
    by : (b : Bool) → slice_get (filter p xs) (length (filter p (take i xs))) ≡ Some x
        → slice_get (if b then y ∷ filter p xs else filter p xs) (length (if b then y ∷ filter p (take i xs) else filter p (take i xs))) ≡ Some x
    by true e = e
    by false e = e

-- all of a list with another element at a place
pub all-set : {A : Type 0} (P : A → Type 0) (xs : List A) (i : ℕ) (y : A) → AllByRecursion P xs → P y → AllByRecursion P (slice_set xs i y)
all-set P [] i y all new = all
all-set P (x ∷ xs) zero y all new = (new, all.1)
all-set P (x ∷ xs) (suc i) y all new = (all.0, all-set P xs i y all.1 new)

-- what each is made to, where the other is made to the same
pub map-set : {A B : Type 0} (f : A → B) (xs : List A) (i : ℕ) (x y : A) → slice_get xs i ≡ Some x → f y ≡ f x → map f (slice_set xs i y) ≡ map f xs
map-set f [] i x y q e = absurd cc
map-set {A} {B} f (z ∷ xs) zero x y q e = ap (λ (b : B). b ∷ map f xs) (e ∙ ap f (same x z (sym q)))
  where
    same : (a b : A) → Some a ≡ Some b → a ≡ b
    same a b t = cc
map-set {B = B} f (z ∷ xs) (suc i) x y q e = ap (λ (l : List B). f z ∷ l) (map-set f xs i x y q e)

-- an element at an index has what all have
pub all-at : {A : Type 0} (P : A → Type 0) (xs : List A) (i : ℕ) (x : A) → slice_get xs i ≡ Some x → AllByRecursion P xs → P x
all-at P [] i x q all = absurd cc
all-at {A} P (y ∷ xs) zero x q all = subst P (same y x q) all.0
  where
    same : (a b : A) → Some a ≡ Some b → a ≡ b
    same a b t = cc
all-at P (y ∷ xs) (suc i) x q all = all-at P xs i x q all.1

-- and what it is made to stands at the index
pub map-at : {A B : Type 0} (f : A → B) (xs : List A) (i : ℕ) (x : A) → slice_get xs i ≡ Some x → slice_get (map f xs) i ≡ Some (f x)
map-at f [] i x q = absurd cc
map-at {A} {B} f (y ∷ xs) zero x q = ap (λ (a : A). Some (f a)) (same y x q)
  where
    same : (a b : A) → Some a ≡ Some b → a ≡ b
    same a b t = cc
map-at f (y ∷ xs) (suc i) x q = map-at f xs i x q
