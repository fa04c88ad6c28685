-- The keys with a seat are those that are listed, whichever way they are put in order.
use Rattle.std.proofs.Common.{◌≡◌, Bool, true, false, ◌||◌, cond, List, [], ◌∷◌, ◌++◌, Option, Some, is_some, IsPermutation, refl, sym, ap, ◌∙◌, true≢false}
use Rattle.std.specs.List.{dedup}
use Rattle.std.specs.List.Sorted.{IsSorted, IsStrictlySortedBy}
use Rattle.std.specs.declared.cmp.Ordering.{Ordering}
use Rattle.std.specs.Ordering.{eq_by_cmp}
use Rattle.std.specs.Cmp.{IsTotalOrder}
use Rattle.std.specs.BTreeMap.{is_at}
use Rattle.std.specs.Map.{keys_of, lookup}
use Rattle.std.specs.Set.{is_member}
use Rattle.std.proofs.lemmas.Cmp.{eq_by_cmp_equiv}
use Rattle.std.proofs.lemmas.List.Folds.{Any-from_list_any, list_any-from_Any}
use Rattle.std.proofs.lemmas.List.Kept.{Any-dedup, Contains-from_dedup, IsStrictlySortedBy-dedup}
use Rattle.std.proofs.lemmas.List.Sorted.{Contains-permutation, IsPermutation-sym}
use Rattle.base_types.specs.Seats.{filled, has_seat}

some_or : {A : Type 0} (b : Bool) (x : A) (o : Option A) (rest : Bool) → is_some o ≡ rest → is_some (cond b (Some x) o) ≡ (b || rest)
some_or true x o rest e = refl
some_or false x o rest e = e

-- each key with a seat is among the keys
pub seat_is_key : {K V : Type 0} (cmp : K → K → Ordering) (seats : List (K × Option V)) (key : K) → has_seat cmp seats key ≡ is_member (eq_by_cmp cmp) (keys_of seats) key
seat_is_key cmp [] key = refl
seat_is_key cmp (s ∷ seats) key = some_or (is_at (cmp key) s.0) s.1 (lookup (is_at (cmp key)) seats) (is_member (eq_by_cmp cmp) (keys_of seats) key) (seat_is_key cmp seats key)

-- those with a value, and then those with room
pub keys_in_parts : {K V : Type 0} (values : List (K × V)) (rooms : List (K × Option V)) → keys_of (filled values ++ rooms) ≡ keys_of values ++ keys_of rooms
keys_in_parts [] rooms = refl
keys_in_parts {K} (x ∷ values) rooms = ap (λ (l : List K). x.0 ∷ l) (keys_in_parts values rooms)

both_ways : (a b : Bool) → (a ≡ true → b ≡ true) → (b ≡ true → a ≡ true) → a ≡ b
both_ways true true to from = refl
both_ways true false to from = absurd (true≢false (sym (to refl)))
both_ways false true to from = absurd (true≢false (sym (from refl)))
both_ways false false to from = refl

module _ {K : Type 0} {cmp : K → K → Ordering} (o : IsTotalOrder cmp) (same : K → K → Bool) (ties : (x y : K) → same x y ≡ eq_by_cmp cmp x y) where
  ties_as_one : same ≡ eq_by_cmp cmp
  ties_as_one = λ i x y. ties x y i

  -- sorted, and each of those that are equal once
  pub listed_once : (keys sorted : List K) → IsPermutation keys sorted → (key : K) → is_member (eq_by_cmp cmp) (dedup same sorted) key ≡ is_member (eq_by_cmp cmp) keys key
  listed_once keys sorted moved key =
      ap (λ e. is_member (eq_by_cmp cmp) (dedup e sorted) key) ties_as_one
      ∙ both_ways (is_member (eq_by_cmp cmp) (dedup (eq_by_cmp cmp) sorted) key) (is_member (eq_by_cmp cmp) keys key)
      (λ is.
      let at = Any-from_list_any (eq_by_cmp cmp key) (dedup (eq_by_cmp cmp) sorted) is in
      let there = Contains-permutation sorted keys at.1 (IsPermutation-sym keys sorted moved) (Contains-from_dedup (eq_by_cmp cmp) sorted at.1 (at.0, at.2, at.3)) in
      list_any-from_Any (eq_by_cmp cmp key) keys (there.0, at.1, there.1, there.2, at.4))
      (λ is.
      let at = Any-from_list_any (eq_by_cmp cmp key) keys is in
      let there = Contains-permutation keys sorted at.1 moved (at.0, at.2, at.3) in
      let kept = Any-dedup (eq_by_cmp_equiv o) sorted at.1 there in
      list_any-from_Any (eq_by_cmp cmp key) (dedup (eq_by_cmp cmp) sorted) (kept.0, kept.1, kept.2, kept.3, (eq_by_cmp_equiv o).congr key at.1 kept.1 at.4 ∙ kept.4))

  pub ordered_once : (sorted : List K) → IsSorted cmp sorted → IsStrictlySortedBy cmp (dedup same sorted)
  ordered_once sorted are = IsStrictlySortedBy-dedup o ties sorted are
