-- Grains that the order doesn't tell apart are one.
use Rattle.std.proofs.Common.{◌≡◌, ◌≢◌, ℕ, Bool, true, false, refl, ap, ◌∙◌, List, Some}
use Rattle.std.specs.Option.{option_flatten}
use Rattle.std.specs.declared.cmp.Ordering.{Ordering}
use Rattle.std.specs.declared.cmp.Ordering.TheVariants.{Less, Equal, Greater}
use Rattle.std.specs.Ordering.{nat_cmp, ordering_then, is_eq}
use Rattle.std.specs.BTreeMap.{is_at, Updates}
use Rattle.base_types.specs.MapEntries.{SetsValue}
use Rattle.std.proofs.lemmas.Map.Lookups.{exact_unsigned}
use Rattle.base_types.specs.declared.calls.GrainId.{GrainId}
use Rattle.base_types.specs.declared.calls.Value.{Value}
use Rattle.base_types.specs.declared.stores.Store.{Store}
use Rattle.base_types.specs.declared.stores.Ends.{Ends}
use Rattle.base_types.specs.Stores.{grain_cmp, PutsState, PutsEnd}

both_equal : (a b : Ordering) → is_eq (ordering_then a b) ≡ true → (a ≡ Equal) × (b ≡ Equal)
both_equal Less b e = absurd (cc e)
both_equal Greater b e = absurd (cc e)
both_equal Equal Less e = absurd (cc e)
both_equal Equal Greater e = absurd (cc e)
both_equal Equal Equal e = (refl, refl)

pub same_by_order : (a b : GrainId) → is_at (grain_cmp a) b ≡ true → a ≡ b
same_by_order a b e =
    let equal = both_equal (nat_cmp a.kind b.kind) (nat_cmp a.key b.key) e in
    let kind : a.kind ≡ b.kind = exact_unsigned a.kind b.kind equal.0 in
    let key : a.key ≡ b.key = exact_unsigned a.key b.key equal.1 in
    let first : a ≡ record b { key = a.key } = ap (λ (k : ℕ). record a { kind = k }) kind in
    let second : record b { key = a.key } ≡ b = ap (λ (k : ℕ). record b { key = k }) key in
    first ∙ second

pub other_grain : (a b : GrainId) → b ≢ a → is_at (grain_cmp a) b ≡ false
other_grain a b other = by_test (is_at (grain_cmp a) b) refl
  where
    by_test : (t : Bool) → is_at (grain_cmp a) b ≡ t → is_at (grain_cmp a) b ≡ false
    by_test false e = e
    by_test true e = absurd (other (cc (same_by_order a b e)))

pub puts_state : (old new : Store) (grain : GrainId) (state : List Value) → Updates grain_cmp old.states new.states grain (Some state) → PutsState old new grain state
puts_state old new grain state updates = record { put = updates.1; others = λ other differs. updates.2 other (other_grain grain other differs) }

pub puts_end : (old new : Ends) (grain : GrainId) (end : ℕ) → SetsValue grain_cmp old.ends new.ends grain (Some end) → PutsEnd old new grain end
puts_end old new grain end updates = record {
  put = ap option_flatten updates.1;
  others = λ other differs. ap option_flatten (updates.2 other (other_grain grain other differs));
}
