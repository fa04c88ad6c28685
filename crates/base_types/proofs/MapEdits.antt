-- What an edit of a map's entries is to a look-up, and to the order of their keys.
use Rattle.std.proofs.Common.{◌≡◌, ℕ, zero, suc, ◌<◌, Bool, true, false, cond, List, [], ◌∷◌, ◌++◌, length, get_or, set, Some, refl, sym, ap, subst, ◌∙◌, inl, inr, arith, true≢false}
use Rattle.std.specs.List.{AllByRecursion}
use Rattle.std.specs.declared.cmp.Ordering.{Ordering}
use Rattle.std.specs.declared.cmp.Ordering.TheVariants.{Less, Equal}
use Rattle.std.specs.Ordering.{ordering_reverse, is_eq, eq_by_cmp}
use Rattle.std.specs.Cmp.{IsTotalOrder, IsEquivalence}
use Rattle.std.specs.BTreeMap.{is_at}
use Rattle.std.specs.Map.{keys_of, lookup}
use Rattle.std.specs.List.Sorted.{IsStrictlySortedBy}
use Rattle.std.proofs.lemmas.Bool.{cases_lt, cond-true, cond-false}
use Rattle.std.proofs.lemmas.Cmp.{eq_by_cmp_equiv}
use Rattle.std.proofs.lemmas.List.Elements.{recursion_from_All}
use Rattle.std.proofs.lemmas.List.{append_assoc}
use Rattle.std.proofs.lemmas.Map.{NonePasses}
use Rattle.std.proofs.lemmas.Map.Keys.{sorted_tail}
use Rattle.base_types.specs.MapEntries.{IsPlaceOf, IsGapFor, SetsValue}
use Rattle.base_types.proofs.KeyOrders.{less_before}

-- two tests of which one at most holds may be made in either order
two_tests : {A : Type 0} (a b : Bool) (x y l : A) → (a ≡ true → b ≡ false) → cond a x (cond b y l) ≡ cond b y (cond a x l)
two_tests true true x y l apart = absurd (true≢false (apart refl))
two_tests true false x y l apart = refl
two_tests false b x y l apart = refl

twice : {A : Type 0} (b : Bool) (x y l : A) → cond b x l ≡ cond b x (cond b y l)
twice true x y l = refl
twice false x y l = refl

-- a value that is written over leaves the keys
pub same_keys : {K V : Type 0} (xs : List (K × V)) (at : ℕ) (e : K × V) (v : V) → e ≡ get_or xs at e → keys_of (set xs at (e.0, v)) ≡ keys_of xs
same_keys [] at e v here = refl
same_keys {K} {V} (x ∷ xs) zero e v here = ap (λ (y : K × V). y.0 ∷ keys_of xs) here
same_keys {K} {V} (x ∷ xs) (suc at) e v here = ap (λ (l : List K). x.0 ∷ l) (same_keys xs at e v here)

module _ {K : Type 0} {cmp : K → K → Ordering} (o : IsTotalOrder cmp) where
  laws : IsEquivalence (eq_by_cmp cmp)
  laws = eq_by_cmp_equiv o

  apart_before : (x e k : K) → cmp x e ≡ Less → cmp e k ≡ Equal → is_at (cmp k) x ≡ false
  apart_before x e k less equal = ap is_eq (sym (o.congr e k x equal) ∙ o.antisymm e x ∙ ap ordering_reverse less)

  -- what is another key than this one isn't equal to what is equal to this one
  other_key : (q x k : K) → is_at (cmp k) x ≡ false → is_at (cmp q) x ≡ true → is_at (cmp k) q ≡ false
  other_key q x k other same = laws.symm k q ∙ laws.congr q x k same ∙ laws.symm x k ∙ other

module _ {K V : Type 0} {cmp : K → K → Ordering} (o : IsTotalOrder cmp) where
  -- what an edit of entries gives at any key
  abbrev pub Sets : List (K × V) → List (K × V) → K → V → Type 0
  Sets old new k v = (q : K) → lookup (is_at (cmp q)) new ≡ cond (is_at (cmp k) q) (Some v) (lookup (is_at (cmp q)) old)

  pub sets_value : (old new : List (K × V)) (k : K) (v : V) → Sets old new k v → SetsValue cmp old new k v
  sets_value old new k v each = (
    each,
    each k ∙ cond-true (is_at (cmp k) k) (Some v) (lookup (is_at (cmp k)) old) ((laws o).refl k),
    λ q other. each q ∙ cond-false (is_at (cmp k) q) (Some v) (lookup (is_at (cmp q)) old) other,
  )

  -- the entry at a place, the others being less before it
  pub value_at : (xs ys : List (K × V)) (k : K) (at : ℕ) (e : K × V) → IsStrictlySortedBy cmp (keys_of xs) → at < length xs → e ≡ get_or xs at e → cmp e.0 k ≡ Equal
      → lookup (is_at (cmp k)) (xs ++ ys) ≡ Some e.1
  value_at [] ys k at e sorted within here equal = absurd (omega (arith, within))
  value_at (x ∷ xs) ys k zero e sorted within here equal =
      let same : is_at (cmp k) x.0 ≡ true = ap (λ (y : K × V). is_at (cmp k) y.0) (sym here) ∙ (laws o).symm k e.0 ∙ ap is_eq equal in
      cond-true (is_at (cmp k) x.0) (Some x.1) (lookup (is_at (cmp k)) (xs ++ ys)) same ∙ ap (λ (y : K × V). Some y.1) (sym here)
  value_at (x ∷ xs) ys k (suc at) e sorted within here equal =
      let less : cmp x.0 (get_or xs at e).0 ≡ Less = less_before o (x ∷ xs) sorted 0 (suc at) e (omega arith) within in
      let other : is_at (cmp k) x.0 ≡ false = apart_before o x.0 e.0 k (subst (λ (y : K × V). cmp x.0 y.0 ≡ Less) (sym here) less) equal in
      cond-false (is_at (cmp k) x.0) (Some x.1) (lookup (is_at (cmp k)) (xs ++ ys)) other ∙ value_at xs ys k at e (sorted_tail cmp x.0 (keys_of xs) sorted) (omega (arith, within)) here equal

  -- a value that is written over
  sets_at : (xs ys : List (K × V)) (k : K) (v : V) (at : ℕ) (e : K × V) → IsStrictlySortedBy cmp (keys_of xs) → at < length xs → e ≡ get_or xs at e → cmp e.0 k ≡ Equal
      → Sets (xs ++ ys) (set xs at (e.0, v) ++ ys) k v
  sets_at [] ys k v at e sorted within here equal q = absurd (omega (arith, within))
  sets_at (x ∷ xs) ys k v zero e sorted within here equal q =
      let rest = lookup (is_at (cmp q)) (xs ++ ys) in
      let same : is_at (cmp q) e.0 ≡ is_at (cmp k) q = (laws o).symm q e.0 ∙ ap is_eq (o.congr e.0 k q equal) in
      ap (λ (b : Bool). cond b (Some v) rest) same
      ∙ twice (is_at (cmp k) q) (Some v) (Some x.1) rest
      ∙ ap (λ (b : Bool). cond (is_at (cmp k) q) (Some v) (cond b (Some x.1) rest)) (sym same ∙ ap (λ (y : K × V). is_at (cmp q) y.0) here)
  sets_at (x ∷ xs) ys k v (suc at) e sorted within here equal q =
      let less : cmp x.0 (get_or xs at e).0 ≡ Less = less_before o (x ∷ xs) sorted 0 (suc at) e (omega arith) within in
      let other : is_at (cmp k) x.0 ≡ false = apart_before o x.0 e.0 k (subst (λ (y : K × V). cmp x.0 y.0 ≡ Less) (sym here) less) equal in
      ap (cond (is_at (cmp q) x.0) (Some x.1)) (sets_at xs ys k v at e (sorted_tail cmp x.0 (keys_of xs) sorted) (omega (arith, within)) here equal q)
      ∙ two_tests (is_at (cmp q) x.0) (is_at (cmp k) q) (Some x.1) (Some v) (lookup (is_at (cmp q)) (xs ++ ys)) (other_key o q x.0 k other)

  -- no entry has a key for which there is a gap
  pub none_at_gap : (xs : List (K × V)) (k : K) (at : ℕ) → IsGapFor cmp k xs at → NonePasses (is_at (cmp k)) xs
  none_at_gap xs k at gap = recursion_from_All (λ e. is_at (cmp k) e.0 ≡ false) xs (λ i d within. (laws o).symm k (get_or xs i d).0 ∙ elim (cases_lt i at) [
    | inl before ↦ ap is_eq (gap.less i d (omega arith) before)
    | inr after ↦ ap is_eq (gap.greater i d after within)
  ])

  -- a look-up passes them by
  pub passes_by : (xs ys : List (K × V)) (k : K) → NonePasses (is_at (cmp k)) xs → lookup (is_at (cmp k)) (xs ++ ys) ≡ lookup (is_at (cmp k)) ys
  passes_by [] ys k none = refl
  passes_by (x ∷ xs) ys k none = cond-false (is_at (cmp k) x.0) (Some x.1) (lookup (is_at (cmp k)) (xs ++ ys)) none.0 ∙ passes_by xs ys k none.1

  -- what is written behind them
  sets_behind : (xs old new : List (K × V)) (k : K) (v : V) → NonePasses (is_at (cmp k)) xs → Sets old new k v → Sets (xs ++ old) (xs ++ new) k v
  sets_behind [] old new k v none sets q = sets q
  sets_behind (x ∷ xs) old new k v none sets q =
      ap (cond (is_at (cmp q) x.0) (Some x.1)) (sets_behind xs old new k v none.1 sets q)
      ∙ two_tests (is_at (cmp q) x.0) (is_at (cmp k) q) (Some x.1) (Some v) (lookup (is_at (cmp q)) (xs ++ old)) (other_key o q x.0 k none.0)

  -- an entry that is pushed
  pub sets_pushed : (xs ys : List (K × V)) (k : K) (v : V) → NonePasses (is_at (cmp k)) xs → SetsValue cmp (xs ++ ys) ((xs ++ (k, v) ∷ []) ++ ys) k v
  sets_pushed xs ys k v none = sets_value (xs ++ ys) ((xs ++ (k, v) ∷ []) ++ ys) k v (λ q.
      ap (lookup (is_at (cmp q))) (append_assoc xs ((k, v) ∷ []) ys)
      ∙ sets_behind xs ys ((k, v) ∷ ys) k v none (λ p. ap (λ (b : Bool). cond b (Some v) (lookup (is_at (cmp p)) ys)) ((laws o).symm p k)) q)

  -- a value that is given to another
  pub sets_other : (xs old new : List (K × V)) (k : K) (v : V) → NonePasses (is_at (cmp k)) xs → Sets old new k v → SetsValue cmp (xs ++ old) (xs ++ new) k v
  sets_other xs old new k v none sets = sets_value (xs ++ old) (xs ++ new) k v (sets_behind xs old new k v none sets)

  -- the keys go on to ascend
  pub sorted_pushed : (xs : List (K × V)) (k : K) (v : V) → IsStrictlySortedBy cmp (keys_of xs) → AllByRecursion (λ (e : K × V). cmp e.0 k ≡ Less) xs → IsStrictlySortedBy cmp (keys_of (xs ++ (k, v) ∷ []))
  unfolding IsStrictlySortedBy
  sorted_pushed [] k v sorted less = (tt, tt)
  sorted_pushed (x ∷ xs) k v sorted less = (all_pushed xs sorted.0, sorted_pushed xs k v sorted.1 less.1)
    where
      all_pushed : (ys : List (K × V)) → AllByRecursion (λ y. cmp x.0 y ≡ Less) (keys_of ys) → AllByRecursion (λ y. cmp x.0 y ≡ Less) (keys_of (ys ++ (k, v) ∷ []))
      all_pushed [] all = (less.0, tt)
      all_pushed (y ∷ ys) all = (all.0, all_pushed ys all.1)

  pub less_all : (xs : List (K × V)) (k : K) (at : ℕ) → IsGapFor cmp k xs at → at ≡ length xs → AllByRecursion (λ (e : K × V). cmp e.0 k ≡ Less) xs
  less_all xs k at gap all = recursion_from_All (λ e. cmp e.0 k ≡ Less) xs (λ i d within. gap.less i d (omega arith) (omega (arith, all, within)))

  -- the same by the place that a search finds
  pub value_in : (xs ys : List (K × V)) (k : K) (at : ℕ) (e : K × V) → IsStrictlySortedBy cmp (keys_of xs) → IsPlaceOf cmp k xs at → e ≡ get_or xs at e → lookup (is_at (cmp k)) (xs ++ ys) ≡ Some e.1
  value_in xs ys k at e sorted place here = value_at xs ys k at e sorted place.within here (subst (λ (y : K × V). cmp y.0 k ≡ Equal) (sym here) (place.equal e))

  pub sets_in : (xs ys : List (K × V)) (k : K) (v : V) (at : ℕ) (e : K × V) → IsStrictlySortedBy cmp (keys_of xs) → IsPlaceOf cmp k xs at → e ≡ get_or xs at e → SetsValue cmp (xs ++ ys) (set xs at (e.0, v) ++ ys) k v
  sets_in xs ys k v at e sorted place here = sets_value (xs ++ ys) (set xs at (e.0, v) ++ ys) k v (sets_at xs ys k v at e sorted place.within here (subst (λ (y : K × V). cmp y.0 k ≡ Equal) (sym here) (place.equal e)))
