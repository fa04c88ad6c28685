-- Which versions that a unit read were taken off their grain's stack.
use Rattle.std.specs.Prelude.{◌≡◌, ℕ, List, ◌∷◌, ◌++◌}
use Rattle.core_model.specs.declared.effects.Read.{Read}
use Rattle.core_model.specs.CoreState.{UnitNo, GrainId, Member}
use Rattle.core_model.specs.declared.events.CoreEvent.{CoreEvent}
use Rattle.core_model.specs.declared.events.CoreEvent.TheVariants.{Bad, Begin, Grant, Refuse, Finish, EndPlain, EndSnapshot, Release, Take, Vote, Decide, Sealed, NotSealed, Doubt, Learn, Emitted, Halt, Want, Load}
use Rattle.core_history.specs.Histories.{Applied, Happened}
use Rattle.core_history.specs.Units.{reads_in}
use Rattle.core_history.specs.Batches.{InBatch}
use Rattle.core_history.specs.Fates.{IsDeadIn}

-- The batch of that number has ended: it is on disk, or it isn't, or nobody knows; or it was decided and all its units are
-- dead.
pub data BatchHasEnded (h : List Applied) (n : ℕ) : Type 0 where
  on_disk : Happened h (Sealed n) → BatchHasEnded h n
  not_on_disk : Happened h (NotSealed n) → BatchHasEnded h n
  in_doubt : Happened h (Doubt n) → BatchHasEnded h n
  all_dead : Happened h (Decide n) → ((u : UnitNo) → InBatch h n u → IsDeadIn h u) → BatchHasEnded h n

-- the unit is dead, and its batch has ended
pub record IsDecidedDead (h : List Applied) (u : UnitNo) : Type 0 where
  pub dead : IsDeadIn h u
  pub batch : ℕ
  pub within : InBatch h batch u
  pub ended : BatchHasEnded h batch

-- the event takes the version of that unit, once it is decided dead, off the grain's stack: any grant of the grain, or the
-- grain learns of the unit
abbrev pub TakesOff : CoreEvent → UnitNo → GrainId → Type 0
TakesOff (Grant u k mode) v g = k ≡ g
TakesOff (Learn u k) v g = (u ≡ v) × (k ≡ g)
TakesOff (Bad line why) v g = ⊥
TakesOff (Begin origin call plain) v g = ⊥
TakesOff (Refuse u k new) v g = ⊥
TakesOff (Finish u effect) v g = ⊥
TakesOff (EndPlain u effect) v g = ⊥
TakesOff (EndSnapshot u at outcome) v g = ⊥
TakesOff (Release u k) v g = ⊥
TakesOff Take v g = ⊥
TakesOff (Vote n k kept) v g = ⊥
TakesOff (Decide n) v g = ⊥
TakesOff (Sealed n) v g = ⊥
TakesOff (NotSealed n) v g = ⊥
TakesOff (Doubt n) v g = ⊥
TakesOff Emitted v g = ⊥
TakesOff Halt v g = ⊥
TakesOff (Want u k) v g = ⊥
TakesOff (Load k u state) v g = ⊥

-- The one unit's version of the grain is the other's, or was made from one that stands on it: the unit read the grain from
-- a unit whose version does.
pub data StandsOn (h : List Applied) (g : GrainId) : UnitNo → UnitNo → Type 0 where
  itself : {s v : UnitNo} → s ≡ v → StandsOn h g s v
  above : {s v : UnitNo} (r : Read) → Member r (reads_in s h) → r.grain ≡ g → StandsOn h g r.source v → StandsOn h g s v

-- What was read is gone: an event took off its grain's stack the version of a unit that was decided dead before, and the
-- version that was read stood on it.
pub record IsGone (h : List Applied) (r : Read) : Type 0 where
  pub front : List Applied
  pub at : Applied
  pub back : List Applied
  pub split : h ≡ front ++ (at ∷ back)
  pub off : UnitNo
  pub takes : TakesOff at.event off r.grain
  pub dead : IsDecidedDead front off
  pub stands : StandsOn front r.grain r.source off
