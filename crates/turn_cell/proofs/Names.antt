-- The numbers of passes, as lists: when two are the same, and which begins with which.
use Rattle.std.proofs.Common.{◌≡◌, ◌≢◌, ◌⊎◌, inl, inr, ⊎_elim, ℕ, List, [], ◌∷◌, ◌++◌, length, Option, None, Some, Bool, true, false, true≢false, refl, sym, ap, ◌∙◌, subst, arith, length-append, eq-eqb, ne_eqb, get_or}
use Rattle.std.specs.Prelude.{cond}
use mathlib.Core.Logic.{dite}
use native.Mathlib.Decide.{ℕ_discrete}
use Rattle.turn_cell.specs.History.{same_number}

-- all but the first part
abbrev tail : List ℕ → List ℕ
tail [] = []
tail (x ∷ xs) = xs

-- a number is the same as itself
same_self : (n : List ℕ) → same_number n n ≡ true
same_self [] = refl
same_self (x ∷ xs) = ap (λ (b : Bool). cond b (same_number xs xs) false) (eq-eqb x x refl) ∙ same_self xs

-- equal numbers are the same
pub same_is : (a b : List ℕ) → a ≡ b → same_number a b ≡ true
same_is a b e = subst (λ (x : List ℕ). same_number a x ≡ true) e (same_self a)

-- and numbers that are the same are equal
is_same : (a b : List ℕ) → same_number a b ≡ true → a ≡ b
is_same [] [] e = refl
is_same [] (y ∷ ys) e = absurd (true≢false (sym e))
is_same (x ∷ xs) [] e = absurd (true≢false (sym e))
is_same (x ∷ xs) (y ∷ ys) e = dite (ℕ_discrete x y)
    (λ is. let tails = is_same xs ys (sym (ap (λ (b : Bool). cond b (same_number xs ys) false) (eq-eqb x y is)) ∙ e) in λ i. is i ∷ tails i)
    (λ ne. absurd (true≢false (sym (sym (ap (λ (b : Bool). cond b (same_number xs ys) false) (ne_eqb x y ne)) ∙ e))))

-- two numbers are the same, or they are not
pub decide : (a b : List ℕ) → Dec (a ≡ b)
decide a b = by_bool (same_number a b) refl
  where
    by_bool : (s : Bool) → same_number a b ≡ s → Dec (a ≡ b)
    by_bool true e = yes (is_same a b e)
    by_bool false e = no (λ is. true≢false (sym (same_is a b is) ∙ e))

-- different numbers are not the same
pub same_else : (a b : List ℕ) → a ≢ b → same_number a b ≡ false
same_else a b ne = by_bool (same_number a b) refl
  where
    by_bool : (s : Bool) → same_number a b ≡ s → same_number a b ≡ false
    by_bool true e = absurd (ne (is_same a b e))
    by_bool false e = e

-- a number that begins with q and then i, and ends with k after p: i is that k, or p begins with q and then i
pub last_cases : (q : List ℕ) (i : ℕ) (rest p : List ℕ) (k : ℕ) → q ++ i ∷ rest ≡ p ++ k ∷ [] → ((q ≡ p) × (i ≡ k) × (rest ≡ [])) ⊎ ((r : List ℕ) × (p ≡ q ++ i ∷ r))
last_cases [] i rest [] k e = inl (refl, ap (λ (l : List ℕ). get_or l 0 0) e, ap tail e)
last_cases [] i rest (y ∷ p) k e = let same : i ≡ y = ap (λ (l : List ℕ). get_or l 0 0) e in inr (p, λ j. sym same j ∷ p)
last_cases (x ∷ q) i rest [] k e = let none : q ++ i ∷ rest ≡ [] = ap tail e in let long = ap (length {A = ℕ}) none in absurd (omega (arith, long, length-append q (i ∷ rest)))
last_cases (x ∷ q) i rest (y ∷ p) k e = let same : x ≡ y = ap (λ (l : List ℕ). get_or l 0 0) e in
    ⊎_elim (λ t. inl ((λ j. same j ∷ t.0 j), t.1, t.2)) (λ t. inr (t.0, λ j. sym same j ∷ t.1 j)) (last_cases q i rest p k (ap tail e))

-- a number that is longer than p and k does not end it with one more
pub not_longer : (q p : List ℕ) (k s : ℕ) (r : List ℕ) → q ≡ p ++ k ∷ r → p ++ k ∷ [] ≡ q ++ s ∷ [] → ⊥
not_longer q p k s r is e =
    let a = ap (length {A = ℕ}) is in
    let b = ap (length {A = ℕ}) e in
    omega (arith, a, b, length-append p (k ∷ r), length-append p (k ∷ []), length-append q (s ∷ []))

-- a number is none of those that begin with it and go on
pub goes_on : (q : List ℕ) (i : ℕ) (rest : List ℕ) → q ++ i ∷ rest ≢ q
goes_on q i rest e = let long = ap (length {A = ℕ}) e in omega (arith, long, length-append q (i ∷ rest))

-- a number that is not empty has a last part
pub last_of : (x : ℕ) (xs : List ℕ) → (p : List ℕ) × (k : ℕ) × (x ∷ xs ≡ p ++ k ∷ [])
last_of x [] = ([], x, refl)
last_of x (y ∷ ys) = let r = last_of y ys in (x ∷ r.0, r.1, λ j. x ∷ r.2 j)

module _ {A : Type 0} where
  -- what stands in two equal options is equal
  pub same_some : (a b : A) → Some a ≡ Some b → a ≡ b
  same_some a b e = ap got e
    where
      got : Option A → A
      got None = a
      got (Some x) = x

  -- a full option is not the empty one
  pub some_not_none : (a : A) → Some a ≡ None → ⊥
  some_not_none a e = true≢false (ap full e)
    where
      full : Option A → Bool
      full None = false
      full (Some x) = true
