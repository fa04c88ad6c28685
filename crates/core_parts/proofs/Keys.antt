-- Keys that the order doesn't tell apart are one, so what is written at one key changes no other.
use Rattle.std.proofs.Common.{◌≡◌, ◌≢◌, Bool, true, false, refl, sym, ap, ◌∙◌, cond, List, Option, Some, None}
use Rattle.std.specs.Prelude.{is_ok, Result, Ok, Err, OnOk}
use Rattle.std.specs.Option.{is_some, option_flatten}
use Rattle.std.specs.declared.cmp.Ordering.{Ordering}
use Rattle.std.specs.declared.cmp.Ordering.TheVariants.{Less, Equal, Greater}
use Rattle.std.specs.Ordering.{nat_cmp, ordering_then, is_eq}
use Rattle.std.specs.BTreeMap.{get, is_at, Updates}
use Rattle.std.proofs.lemmas.Map.Lookups.{exact_unsigned}
use Rattle.base_types.specs.declared.calls.UnitNo.{UnitNo}
use Rattle.base_types.specs.declared.calls.GrainId.{GrainId}
use Rattle.base_types.specs.declared.calls.Value.{Value}
use Rattle.base_types.specs.Stores.{grain_cmp}
use Rattle.core_parts.specs.declared.kept_states.KeptStates.{KeptStates}
use Rattle.core_parts.specs.declared.handed_states.HandedStates.{HandedStates}
use Rattle.core_parts.specs.declared.handed_states.HandedKey.{HandedKey}
use Rattle.core_parts.specs.States.{unit_cmp, handed_cmp, kept_in, is_placed, PutsKept, KeepsPlaced, PutsHanded}

-- what holds after a call that went well, where it did
pub when_ok : {A E P : Type 0} (r : Result A E) → OnOk r P → is_ok r ≡ true → P
when_ok (Ok x) holds e = holds
when_ok (Err x) holds e = absurd (cc e)

equal : (o : Ordering) → is_eq o ≡ true → o ≡ Equal
equal Less e = absurd (cc e)
equal Equal e = refl
equal Greater e = absurd (cc e)

both_equal : (a b : Ordering) → is_eq (ordering_then a b) ≡ true → (a ≡ Equal) × (b ≡ Equal)
both_equal Less b e = absurd (cc e)
both_equal Equal b e = (refl, equal b e)
both_equal Greater b e = absurd (cc e)

exact_unit : (a b : UnitNo) → unit_cmp a b ≡ Equal → a ≡ b
exact_unit a b e =
    let number : a.0 ≡ b.0 = exact_unsigned a.0 b.0 e in
    λ i. record { 0 = number i }

exact_grain : (a b : GrainId) → is_at (grain_cmp a) b ≡ true → a ≡ b
exact_grain a b e =
    let equal = both_equal (nat_cmp a.kind b.kind) (nat_cmp a.key b.key) e in
    let kind : a.kind ≡ b.kind = exact_unsigned a.kind b.kind equal.0 in
    let key : a.key ≡ b.key = exact_unsigned a.key b.key equal.1 in
    λ i. record { kind = kind i; key = key i }

exact_key : (a b : HandedKey) → is_at (handed_cmp a) b ≡ true → (a.unit ≡ b.unit) × (a.grain ≡ b.grain)
exact_key a b e =
    let equal = both_equal (unit_cmp a.unit b.unit) (grain_cmp a.grain b.grain) e in
    (exact_unit a.unit b.unit equal.0, exact_grain a.grain b.grain (ap is_eq equal.1))

-- what isn't true is false
apart : (b : Bool) → (b ≡ true → ⊥) → b ≡ false
apart false n = refl
apart true n = absurd (n refl)

other_grain : (a b : GrainId) → b ≢ a → is_at (grain_cmp a) b ≡ false
other_grain a b other = apart (is_at (grain_cmp a) b) (λ e. other (sym (exact_grain a b e)))

-- a grain gets a last state
pub puts_kept : (old new : KeptStates) (grain : GrainId) (state : List Value) → Updates grain_cmp old.states new.states grain (Some (Some state)) → PutsKept old new grain state
puts_kept old new grain state updates = record {
  put = ap option_flatten updates.1;
  others = λ other differs. ap option_flatten (updates.2 other (other_grain grain other differs));
}

some_stays : {A : Type 0} (b : Bool) (x : A) (o : Option A) → is_some o ≡ true → is_some (cond b (Some x) o) ≡ true
some_stays true x o some = refl
some_stays false x o some = some

-- a grain that is written to keeps its place, and so do the others
pub keeps_placed : (old new : KeptStates) (grain : GrainId) (kept : Option (List Value)) → Updates grain_cmp old.states new.states grain (Some kept) → KeepsPlaced old new
keeps_placed old new grain kept updates = λ other place.
    ap is_some (updates.0 other) ∙ some_stays (is_at (grain_cmp grain) other) kept (get grain_cmp old.states other) place

no_state : {A : Type 0} (b : Bool) (o : Option (Option A)) → (b ≡ true → is_some o ≡ false) → option_flatten (cond b (Some None) o) ≡ option_flatten o
no_state false o none = refl
no_state true None none = refl
no_state true (Some kept) none = absurd (cc (none refl))

-- a new place without a state changes no state
pub same_kept : (old new : KeptStates) (grain : GrainId) → is_placed old grain ≡ false → Updates grain_cmp old.states new.states grain (Some None) → (other : GrainId) → kept_in new other ≡ kept_in old other
same_kept old new grain none updates other =
    ap option_flatten (updates.0 other)
    ∙ no_state (is_at (grain_cmp grain) other) (get grain_cmp old.states other) (λ e. ap (is_placed old) (sym (exact_grain grain other e)) ∙ none)

-- a unit gets a state for a grain, or has it no longer
pub puts_handed : (old new : HandedStates) (unit : UnitNo) (grain : GrainId) (state : Option (List Value)) →
    Updates handed_cmp old.states new.states (record { unit = unit; grain = grain }) state → PutsHanded old new unit grain state
puts_handed old new unit grain state updates = record {
  put = updates.1;
  others = λ u g differs. updates.2 (record { unit = u; grain = g })
      (apart (is_at (handed_cmp (record { unit = unit; grain = grain })) (record { unit = u; grain = g }))
      (λ e. (let same = exact_key (record { unit = unit; grain = grain }) (record { unit = u; grain = g }) e in differs (sym same.0, sym same.1))));
}
