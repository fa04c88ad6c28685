-- One entry of a list is written or added.
use Rattle.std.proofs.Common.{◌≡◌, ℕ, zero, suc, ◌+◌, ◌-◌, ◌<◌, ◌≤◌, List, [], ◌∷◌, ◌++◌, length, set, Bool, true, false, cond, refl, sym, ap, ◌∙◌, arith, Some, None, nat_lt, slice_get, length-set, get_or, drop, get_or-set_same}
use Rattle.std.proofs.lemmas.Bool.{cond_both, ltb-true, ltb-false}
use Rattle.std.proofs.lemmas.Option.{slice_get-get_or}
use Rattle.core_model.specs.CoreState.{UnitNo, put}
use Rattle.core_laws.proofs.Puts.{put-at, put-is, put-other}
use Rattle.unit_table.specs.Table.{among}

-- an attribute of what one unit has is put
pub put-of : {A B : Type 0} (of : B → A) (f : UnitNo → B) (u : UnitNo) (x : B) → ◌≡◌ {A = UnitNo → A} (λ v. of (put f u x v)) (put (λ v. of (f v)) u (of x))
put-of of f u x = λ i v. at v i
  where
    at : (v : UnitNo) → of (put f u x v) ≡ put (λ q. of (f q)) u (of x) v
    at v = put-at f u x (λ y. of y ≡ put (λ q. of (f q)) u (of x) v) v
        (λ e. sym (put-is (λ q. of (f q)) u (of x) v e))
        (λ n. sym (put-other (λ q. of (f q)) u (of x) v n))

-- one that stays leaves all units' as they were
pub put-kept : {A B : Type 0} (of : B → A) (f : UnitNo → B) (u : UnitNo) (x : B) → of x ≡ of (f u) → ◌≡◌ {A = UnitNo → A} (λ v. of (put f u x v)) (λ v. of (f v))
put-kept of f u x same = λ i v. at v i
  where
    at : (v : UnitNo) → of (put f u x v) ≡ of (f v)
    at v = put-at f u x (λ y. of y ≡ of (f v)) v (λ e. same ∙ ap (λ q. of (f q)) (sym e)) (λ n. refl)

-- the first item is the one that was read
pub first-of : {A : Type 0} (xs : List A) (x : A) → 0 < length xs → x ≡ get_or xs 0 x → xs ≡ x ∷ drop 1 xs
first-of [] x some read = absurd (omega (arith, some))
first-of (y ∷ ys) x some read = ap (λ z. z ∷ ys) (sym read)

-- the item that was written
pub get-set_same : {A : Type 0} (xs : List A) (k : ℕ) (x : A) → k < length xs → slice_get (set xs k x) k ≡ Some x
get-set_same xs k x h = slice_get-get_or (set xs k x) k x (let e = length-set xs k x in omega arith) ∙ ap Some (get_or-set_same xs k x x h)

get-set_other : {A : Type 0} (xs : List A) (k j : ℕ) (x : A) → (j ≡ k → ⊥) → slice_get (set xs k x) j ≡ slice_get xs j
get-set_other [] k j x n = refl
get-set_other (y ∷ ys) zero zero x n = absurd (n refl)
get-set_other (y ∷ ys) zero (suc j) x n = refl
get-set_other (y ∷ ys) (suc k) zero x n = refl
get-set_other (y ∷ ys) (suc k) (suc j) x n = get-set_other ys k j x (λ e. n (ap suc e))

get-push_same : {A : Type 0} (xs : List A) (x : A) → slice_get (xs ++ x ∷ []) (length xs) ≡ Some x
get-push_same [] x = refl
get-push_same (y ∷ ys) x = get-push_same ys x

get-push_other : {A : Type 0} (xs : List A) (j : ℕ) (x : A) → (j ≡ length xs → ⊥) → slice_get (xs ++ x ∷ []) j ≡ slice_get xs j
get-push_other [] zero x n = absurd (n refl)
get-push_other [] (suc j) x n = refl
get-push_other (y ∷ ys) zero x n = refl
get-push_other (y ∷ ys) (suc j) x n = get-push_other ys j x (λ e. n (ap suc e))

-- what a unit has whose place is known
pub entry-place : {A : Type 0} (base : ℕ) (xs : List A) (u : UnitNo) (k : ℕ) → u.0 ≡ base + k → among base xs u ≡ slice_get xs k
entry-place base xs u k e =
    cond_both (nat_lt u.0 base) None (slice_get xs (u.0 - base)) (λ y. y ≡ slice_get xs k)
    (λ t. let h = ltb-true u.0 base t in absurd (omega arith))
    (λ f. let q : u.0 - base ≡ k = omega arith in ap (slice_get xs) q)

-- a unit before the first has none
pub entry-before : {A : Type 0} (base : ℕ) (xs : List A) (u : UnitNo) → u.0 < base → among base xs u ≡ None
entry-before base xs u before =
    cond_both (nat_lt u.0 base) None (slice_get xs (u.0 - base)) (λ y. y ≡ None)
    (λ t. refl)
    (λ f. let h = ltb-false u.0 base f in absurd (omega (arith, before, h)))

-- where two lists have the same at a unit's place, it has the same in both
entry-same : {A : Type 0} (base : ℕ) (xs ys : List A) (u : UnitNo) → (base ≤ u.0 → slice_get xs (u.0 - base) ≡ slice_get ys (u.0 - base)) → among base xs u ≡ among base ys u
entry-same base xs ys u same = by_test (nat_lt u.0 base) refl
  where
    by_test : (t : Bool) → nat_lt u.0 base ≡ t → cond t None (slice_get xs (u.0 - base)) ≡ cond t None (slice_get ys (u.0 - base))
    by_test true e = refl
    by_test false e = same (ltb-false u.0 base e)

other-place : (base k : ℕ) (u v : UnitNo) → u.0 ≡ base + k → (v ≡ u → ⊥) → base ≤ v.0 → v.0 - base ≡ k → ⊥
other-place base k u v e n above q = (let same : v.0 ≡ u.0 = omega arith in n (λ i. record { 0 = same i }))

-- one is written
pub set-entries : {A : Type 0} (base : ℕ) (xs : List A) (u : UnitNo) (k : ℕ) (x : A) → k < length xs → u.0 ≡ base + k →
    among base (set xs k x) ≡ put (among base xs) u (Some x)
set-entries {A} base xs u k x within e = λ i v. at v i
  where
    at : (v : UnitNo) → among base (set xs k x) v ≡ put (among base xs) u (Some x) v
    at v = put-at (among base xs) u (Some x) (λ y. among base (set xs k x) v ≡ y) v
        (λ q. ap (among base (set xs k x)) q ∙ entry-place base (set xs k x) u k e ∙ get-set_same xs k x within)
        (λ n. entry-same base (set xs k x) xs v (λ above. get-set_other xs k (v.0 - base) x (other-place base k u v e n above)))

-- one is added
pub push-entries : {A : Type 0} (base : ℕ) (xs : List A) (u : UnitNo) (x : A) → u.0 ≡ base + length xs →
    among base (xs ++ x ∷ []) ≡ put (among base xs) u (Some x)
push-entries {A} base xs u x e = λ i v. at v i
  where
    at : (v : UnitNo) → among base (xs ++ x ∷ []) v ≡ put (among base xs) u (Some x) v
    at v = put-at (among base xs) u (Some x) (λ y. among base (xs ++ x ∷ []) v ≡ y) v
        (λ q. ap (among base (xs ++ x ∷ [])) q ∙ entry-place base (xs ++ x ∷ []) u (length xs) e ∙ get-push_same xs x)
        (λ n. entry-same base (xs ++ x ∷ []) xs v (λ above. get-push_other xs (v.0 - base) x (other-place base (length xs) u v e n above)))

-- the first is taken off: each other unit keeps what it has
pub drop-entries : {A : Type 0} (base : ℕ) (x : A) (xs : List A) (u : UnitNo) → (u.0 ≡ base → ⊥) → among (base + 1) xs u ≡ among base (x ∷ xs) u
drop-entries {A} base x xs u other = by_test (nat_lt u.0 base) refl
  where
    by_test : (t : Bool) → nat_lt u.0 base ≡ t → among (base + 1) xs u ≡ among base (x ∷ xs) u
    by_test true e = (let h = ltb-true u.0 base e in entry-before (base + 1) xs u (omega (arith, h)) ∙ sym (entry-before base (x ∷ xs) u h))
    by_test false e =
        let h = ltb-false u.0 base e in
        let place : u.0 ≡ base + 1 + (u.0 - (base + 1)) = omega (arith, h, other) in
        let behind : u.0 ≡ base + suc (u.0 - (base + 1)) = omega (arith, h, other) in
        entry-place (base + 1) xs u (u.0 - (base + 1)) place ∙ sym (entry-place base (x ∷ xs) u (suc (u.0 - (base + 1))) behind)
