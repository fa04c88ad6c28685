-- A search among entries whose keys ascend.
use Rattle.std.proofs.Common.{◌≡◌, ℕ, zero, suc, ◌<◌, ◌≤◌, List, [], ◌∷◌, length, get_or, Result, Ok, Err, IfOk, IfErr, refl, sym, ap, subst, ◌∙◌, inl, inr, arith}
use Rattle.std.specs.declared.cmp.Ordering.{Ordering}
use Rattle.std.specs.declared.cmp.Ordering.TheVariants.{Less, Equal, Greater}
use Rattle.std.specs.Ordering.{ordering_reverse, ordering_index}
use Rattle.std.specs.Cmp.{IsTotalOrder}
use Rattle.std.specs.Map.{keys_of}
use Rattle.std.specs.List.Sorted.{IsStrictlySortedBy, IsNonDecreasingBy, IsSearchInRange, IsBinarySearchResult}
use Rattle.std.proofs.lemmas.Bool.{cases_lt}
use Rattle.std.proofs.lemmas.Map.Keys.{Less-from_sorted}
use Rattle.base_types.specs.MapEntries.{IsPlaceOf, IsGapFor}

-- the key of the entry at a place
pub key_at : {K V : Type 0} (xs : List (K × V)) (i : ℕ) (d : K × V) → get_or (keys_of xs) i d.0 ≡ (get_or xs i d).0
key_at [] i d = refl
key_at (x ∷ xs) zero d = refl
key_at (x ∷ xs) (suc i) d = key_at xs i d

module _ {K : Type 0} {cmp : K → K → Ordering} (o : IsTotalOrder cmp) where
  -- a greater one of two keys doesn't come before a third where the other comes behind it
  rises : (a b k : K) → cmp a b ≡ Less → ordering_index (cmp a k) ≤ ordering_index (cmp b k)
  rises a b k less = by (cmp a k) refl
    where
      by : (r : Ordering) → cmp a k ≡ r → ordering_index (cmp a k) ≤ ordering_index (cmp b k)
      by Less e = omega (arith, ap ordering_index e)
      by Equal e = omega (arith, ap ordering_index e, ap ordering_index (o.antisymm b k ∙ ap ordering_reverse (sym (o.congr a k b e) ∙ less)))
      by Greater e = omega (arith, ap ordering_index e, ap ordering_index (o.antisymm b k ∙ ap ordering_reverse (o.trans k a b (o.antisymm k a ∙ ap ordering_reverse e) less)))

module _ {K V : Type 0} {cmp : K → K → Ordering} (o : IsTotalOrder cmp) where
  -- the keys of earlier entries are less
  pub less_before : (xs : List (K × V)) → IsStrictlySortedBy cmp (keys_of xs) → (i j : ℕ) (d : K × V) → i < j → j < length xs → cmp (get_or xs i d).0 (get_or xs j d).0 ≡ Less
  less_before xs sorted i j d before within =
      subst (λ (k : K). cmp k (get_or xs j d).0 ≡ Less) (key_at xs i d)
      (subst (λ (k : K). cmp (get_or (keys_of xs) i d.0) k ≡ Less) (key_at xs j d) (Less-from_sorted cmp (keys_of xs) i j d.0 sorted before (subst (λ (n : ℕ). j < n) (sym (as_long xs)) within)))
    where
      as_long : (ys : List (K × V)) → length (keys_of ys) ≡ length ys
      as_long [] = refl
      as_long (y ∷ ys) = ap suc (as_long ys)

  comparisons_rise : (xs : List (K × V)) (k : K) → IsStrictlySortedBy cmp (keys_of xs) → IsNonDecreasingBy (λ entry. ordering_index (cmp entry.0 k)) xs
  comparisons_rise xs k sorted i j d le within = elim (cases_lt i j) [
    | inl before ↦ rises o (get_or xs i d).0 (get_or xs j d).0 k (less_before xs sorted i j d before within)
    | inr after ↦ (
        let same : i ≡ j = omega (arith, le, after) in
        omega (arith, ap (λ (n : ℕ). ordering_index (cmp (get_or xs n d).0 k)) same))
  ]

  -- a binary search ends at the key, or at the gap for it
  pub searched : (xs : List (K × V)) (k : K) (r : Result ℕ ℕ) → IsStrictlySortedBy cmp (keys_of xs) → IsSearchInRange r (length xs) → IsBinarySearchResult (λ entry. cmp entry.0 k) xs r
      → IfOk r (IsPlaceOf cmp k xs) × IfErr r (IsGapFor cmp k xs)
  searched xs k (Ok at) sorted within equal = (record { within = within; equal = equal }, tt)
  searched xs k (Err at) sorted within parted =
      let part = parted (comparisons_rise xs k sorted) in
      (tt, record { within = within; less = part.0; greater = part.1 })
