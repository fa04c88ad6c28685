-- What is kept of each grain.
use Rattle.std.specs.Prelude.{◌≡◌, ◌≢◌, ℕ, List, Bool, true, Option, Some, None, max}
use Rattle.std.specs.declared.cmp.Ordering.{Ordering}
use Rattle.std.specs.Ordering.{nat_cmp, then_cmp, on}
use Rattle.std.specs.BTreeMap.{get}
use Rattle.base_types.specs.Seats.{value_in, has_seat}
use Rattle.base_types.specs.declared.calls.Value.{Value}
use Rattle.base_types.specs.declared.calls.GrainId.{GrainId}
use Rattle.base_types.specs.declared.stores.Store.{Store}
use Rattle.base_types.specs.declared.stores.Ends.{Ends}

-- the order of grains: by type, then key
abbrev pub grain_cmp : GrainId → GrainId → Ordering
grain_cmp = then_cmp (on (λ g. g.kind) nat_cmp) (on (λ g. g.key) nat_cmp)

-- the state of a grain, none where it isn't there
abbrev pub state_in : Store → GrainId → Option (List Value)
state_in store grain = get grain_cmp store.states grain

-- the end in a grain's file, none where no place in it is named
abbrev pub end_in : Ends → GrainId → Option ℕ
end_in ends grain = value_in grain_cmp ends.ends grain

-- the grain has room for an end
abbrev pub has_room : Ends → GrainId → Bool
has_room ends grain = has_seat grain_cmp ends.ends grain

-- the greater of an end, which may be missing, and this one
abbrev pub later_end : Option ℕ → ℕ → ℕ
later_end None end = end
later_end (Some kept) end = max kept end

-- this grain has this state now, and every other grain what it had
pub record PutsState (old new : Store) (grain : GrainId) (state : List Value) : Type 0 where
  pub put : state_in new grain ≡ Some state
  pub others : (other : GrainId) → other ≢ grain → state_in new other ≡ state_in old other

-- this grain's file has this end now, and every other what it had
pub record PutsEnd (old new : Ends) (grain : GrainId) (end : ℕ) : Type 0 where
  pub put : end_in new grain ≡ Some end
  pub others : (other : GrainId) → other ≢ grain → end_in new other ≡ end_in old other

-- this grain's file ends at the greater of where it did and here, and every other where it did
abbrev pub RaisesEnd : Ends → Ends → GrainId → ℕ → Type 0
RaisesEnd old new grain end = PutsEnd old new grain (later_end (end_in old grain) end)

-- no grain has lost its room
abbrev pub KeepsRoom : Ends → Ends → Type 0
KeepsRoom old new = (grain : GrainId) → has_room old grain ≡ true → has_room new grain ≡ true
