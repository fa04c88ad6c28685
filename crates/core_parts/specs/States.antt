-- What is kept of states, by grain, and by unit and grain.
use Rattle.std.specs.Prelude.{◌≡◌, ◌≢◌, List, [], ◌∷◌, Bool, true, Option, Some, None, is_some, if◌then◌else◌}
use Rattle.std.specs.Option.{option_flatten}
use Rattle.std.specs.declared.cmp.Ordering.{Ordering}
use Rattle.std.specs.Ordering.{nat_cmp, then_cmp, on}
use Rattle.std.specs.BTreeMap.{get}
use Rattle.base_types.specs.declared.calls.Value.{Value}
use Rattle.base_types.specs.declared.calls.UnitNo.{UnitNo}
use Rattle.base_types.specs.declared.calls.GrainId.{GrainId}
use Rattle.base_types.specs.Grains.{same_grain}
use Rattle.base_types.specs.Stores.{grain_cmp}
use Rattle.core_parts.specs.declared.kept_states.KeptStates.{KeptStates}
use Rattle.core_parts.specs.declared.known_states.KnownState.{KnownState}
use Rattle.core_parts.specs.declared.known_states.KnownStates.{KnownStates}
use Rattle.core_parts.specs.declared.last_states.LastStates.{LastStates}
use Rattle.core_parts.specs.declared.handed_states.HandedStates.{HandedStates}
use Rattle.core_parts.specs.declared.handed_states.HandedKey.{HandedKey}

-- ---- where they are kept

-- the grain's last committed state, none where it has none
abbrev pub kept_in : KeptStates → GrainId → Option (List Value)
kept_in t grain = option_flatten (get grain_cmp t.states grain)

-- the grain has a place for its last committed state
abbrev pub is_placed : KeptStates → GrainId → Bool
is_placed t grain = is_some (get grain_cmp t.states grain)

-- this grain has this last state now, and every other what it had
pub record PutsKept (old new : KeptStates) (grain : GrainId) (state : List Value) : Type 0 where
  pub put : kept_in new grain ≡ Some state
  pub others : (other : GrainId) → other ≢ grain → kept_in new other ≡ kept_in old other

-- no grain has lost its place
abbrev pub KeepsPlaced : KeptStates → KeptStates → Type 0
KeepsPlaced old new = (grain : GrainId) → is_placed old grain ≡ true → is_placed new grain ≡ true

-- ---- and where contracts alone know them

-- the first of these states that is the grain's, none where none is
abbrev pub known_among : GrainId → List KnownState → Option (List Value)
known_among grain [] = None
known_among grain (x ∷ xs) = if same_grain x.grain grain then Some x.state else known_among grain xs

-- the grain's last committed state, by what is kept, or else by what is known
abbrev pub last_by : Option KeptStates → KnownStates → GrainId → Option (List Value)
last_by (Some kept) known grain = kept_in kept grain
last_by None known grain = known_among grain known.states

-- the grain has a place, which it needs where states are kept
abbrev pub placed_by : Option KeptStates → GrainId → Bool
placed_by (Some kept) grain = is_placed kept grain
placed_by None grain = true

-- ---- either way

-- the states are kept
abbrev pub keeps_states : LastStates → Bool
keeps_states t = is_some t.kept

-- the grain's last committed state, none where it has none
abbrev pub last_in : LastStates → GrainId → Option (List Value)
last_in t grain = last_by t.kept t.known grain

-- the grain has a place for its last committed state
abbrev pub has_place : LastStates → GrainId → Bool
has_place t grain = placed_by t.kept grain

-- this grain has this last state now, and every other what it had
pub record PutsLast (old new : LastStates) (grain : GrainId) (state : List Value) : Type 0 where
  pub put : last_in new grain ≡ Some state
  pub others : (other : GrainId) → other ≢ grain → last_in new other ≡ last_in old other

-- no grain has lost its place
abbrev pub KeepsPlaces : LastStates → LastStates → Type 0
KeepsPlaces old new = (grain : GrainId) → has_place old grain ≡ true → has_place new grain ≡ true

-- the order of units
abbrev pub unit_cmp : UnitNo → UnitNo → Ordering
unit_cmp = on (λ u. u.0) nat_cmp

-- the order of a unit's grains: by unit, then grain
abbrev pub handed_cmp : HandedKey → HandedKey → Ordering
handed_cmp = then_cmp (on (λ k. k.unit) unit_cmp) (on (λ k. k.grain) grain_cmp)

-- the state that the unit will hand to the grain, none where it has none
abbrev pub handed_in : HandedStates → UnitNo → GrainId → Option (List Value)
handed_in t unit grain = get handed_cmp t.states (record { unit = unit; grain = grain })

-- this unit has this state for this grain now, and every other unit, and this one for every other grain, what it had
pub record PutsHanded (old new : HandedStates) (unit : UnitNo) (grain : GrainId) (state : Option (List Value)) : Type 0 where
  pub put : handed_in new unit grain ≡ state
  pub others : (u : UnitNo) (g : GrainId) → ((u ≡ unit) × (g ≡ grain) → ⊥) → handed_in new u g ≡ handed_in old u g
