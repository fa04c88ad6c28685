-- Look-ups among keys with a value and keys that have room for one.
use Rattle.std.proofs.Common.{◌≡◌, Bor, Bool, true, false, cond, List, [], ◌∷◌, ◌++◌, Option, Some, None, option_map, is_some, refl, sym, ap, ◌∙◌, true≢false}
use Rattle.std.specs.Option.{option_or, option_flatten, option_copied}
use Rattle.std.specs.declared.cmp.Ordering.{Ordering}
use Rattle.std.specs.Cmp.{IsTotalOrder}
use Rattle.std.specs.BTreeMap.{is_at}
use Rattle.std.specs.Map.{lookup}
use Rattle.std.proofs.lemmas.Cmp.{eq_by_cmp_equiv}
use Rattle.std.proofs.lemmas.Map.{NonePasses, none_passes_from_lookup}
use Rattle.std.proofs.lemmas.Map.Made.{lookup-map_values}
use Rattle.base_types.specs.MapEntries.{SetsValue}
use Rattle.base_types.specs.Seats.{filled, value_in, KeepsSeats}
use Rattle.base_types.proofs.MapEdits.{sets_value, sets_other}

cond_or : {A : Type 0} (b : Bool) (v : A) (o p : Option A) → cond b (Some v) (option_or o p) ≡ option_or (cond b (Some v) o) p
cond_or true v o p = refl
cond_or false v o p = refl

pick : {A : Type 0} (b : Bool) (v : A) (o : Option A) (p : Option (Option A)) → option_or (option_map Some (cond b (Some v) o)) p ≡ cond b (Some (Some v)) (option_or (option_map Some o) p)
pick true v o p = refl
pick false v o p = refl

lookup_append : {K A : Type 0} (test : K → Bool) (xs ys : List (K × A)) → lookup test (xs ++ ys) ≡ option_or (lookup test xs) (lookup test ys)
lookup_append test [] ys = refl
lookup_append test (x ∷ xs) ys = ap (cond (test x.0) (Some x.1)) (lookup_append test xs ys) ∙ cond_or (test x.0) x.1 (lookup test xs) (lookup test ys)

-- what a key has is its value, or else what stands where room was made
pub seat_of : {K V : Type 0} (test : K → Bool) (values : List (K × V)) (rooms : List (K × Option V)) → lookup test (filled values ++ rooms) ≡ option_or (option_map Some (lookup test values)) (lookup test rooms)
seat_of test values rooms = lookup_append test (filled values) rooms ∙ ap (λ o. option_or o (lookup test rooms)) (lookup-map_values Some test values)

-- a key with a value
pub value_there : {K V : Type 0} (test : K → Bool) (values : List (K × V)) (rooms : List (K × Option V)) (v : V) → Some v ≡ lookup test values → lookup test (filled values ++ rooms) ≡ Some (Some v)
value_there test values rooms v there = seat_of test values rooms ∙ ap (λ o. option_or (option_map Some o) (lookup test rooms)) (sym there)

-- a key without one
pub value_missing : {K V : Type 0} (test : K → Bool) (values : List (K × V)) (rooms : List (K × Option V)) → lookup test values ≡ None → lookup test (filled values ++ rooms) ≡ lookup test rooms
value_missing test values rooms none = seat_of test values rooms ∙ ap (λ o. option_or (option_map Some o) (lookup test rooms)) none

none_from : {A : Type 0} (o : Option A) → is_some o ≡ false → o ≡ None
none_from None e = refl
none_from (Some x) e = absurd (true≢false e)

no_value : {A : Type 0} (o : Option A) (p : Option (Option A)) → is_some (option_or (option_map Some o) p) ≡ false → o ≡ None
no_value None p e = refl
no_value (Some x) p e = absurd (true≢false e)

-- a key that has no seat
pub no_seat : {A K : Type 0} (test : K → Bool) (seats : List (K × A)) → is_some (lookup test seats) ≡ false → lookup test seats ≡ None
no_seat test seats none = none_from (lookup test seats) none

pub no_value_there : {K V : Type 0} (test : K → Bool) (values : List (K × V)) (rooms : List (K × Option V)) → is_some (lookup test (filled values ++ rooms)) ≡ false → lookup test values ≡ None
no_value_there test values rooms none = no_value (lookup test values) (lookup test rooms) (sym (ap is_some (seat_of test values rooms)) ∙ none)

-- what is borrowed of nothing
pub none_copied : {A : Type 0} (o : Option (Bor A)) → is_some o ≡ false → option_copied o ≡ None
none_copied None e = refl
none_copied (Some x) e = absurd (true≢false e)

module _ {K V : Type 0} {cmp : K → K → Ordering} (o : IsTotalOrder cmp) where
  -- a key that is given a value among those that have one
  pub puts : (old new : List (K × V)) (rooms : List (K × Option V)) (k : K) (v : V) → SetsValue cmp old new k v → SetsValue cmp (filled old ++ rooms) (filled new ++ rooms) k (Some v)
  puts old new rooms k v sets = sets_value o (filled old ++ rooms) (filled new ++ rooms) k (Some v) (λ q.
      seat_of (is_at (cmp q)) new rooms
      ∙ ap (λ p. option_or (option_map Some p) (lookup (is_at (cmp q)) rooms)) (sets.0 q)
      ∙ pick (is_at (cmp k) q) v (lookup (is_at (cmp q)) old) (lookup (is_at (cmp q)) rooms)
      ∙ ap (cond (is_at (cmp k) q) (Some (Some v))) (sym (seat_of (is_at (cmp q)) old rooms)))

  none_filled : (values : List (K × V)) (k : K) → lookup (is_at (cmp k)) values ≡ None → NonePasses (is_at (cmp k)) (filled values)
  none_filled values k none = none_passes_from_lookup (is_at (cmp k)) (filled values) (lookup-map_values Some (is_at (cmp k)) values ∙ ap (option_map Some) none)

  -- a key that has no value is given something where room was made
  pub seats : (values : List (K × V)) (old new : List (K × Option V)) (k : K) (seat : Option V) → lookup (is_at (cmp k)) values ≡ None
      → ((q : K) → lookup (is_at (cmp q)) new ≡ cond (is_at (cmp k) q) (Some seat) (lookup (is_at (cmp q)) old)) → SetsValue cmp (filled values ++ old) (filled values ++ new) k seat
  seats values old new k seat none sets = sets_other o (filled values) old new k seat (none_filled values k none) sets

  -- whoever has room keeps it
  pub keeps : (old new : List (K × Option V)) (k : K) (seat : Option V) → SetsValue cmp old new k seat → KeepsSeats cmp old new
  keeps old new k seat sets q room = ap is_some (sets.0 q) ∙ by (is_at (cmp k) q)
    where
      by : (b : Bool) → is_some (cond b (Some seat) (lookup (is_at (cmp q)) old)) ≡ true
      by true = refl
      by false = room

  -- room for a key that was missing changes no value
  pub same_values : (old new : List (K × Option V)) (k : K) → lookup (is_at (cmp k)) old ≡ None → SetsValue cmp old new k None → (q : K) → value_in cmp new q ≡ value_in cmp old q
  same_values old new k none sets q = ap option_flatten (sets.0 q) ∙ by (is_at (cmp k) q) refl
    where
      by : (b : Bool) → is_at (cmp k) q ≡ b → option_flatten (cond b (Some None) (lookup (is_at (cmp q)) old)) ≡ value_in cmp old q
      by false e = refl
      by true e =
          let same : lookup (is_at (cmp k)) old ≡ lookup (is_at (cmp q)) old = λ i. lookup (λ z. (eq_by_cmp_equiv o).congr k q z e i) old in
          ap option_flatten (sym none ∙ same)
