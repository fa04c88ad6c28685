-- Who is dead, and who is committed.
use Rattle.std.specs.Prelude.{ℕ, List, false}
use Rattle.core_model.specs.declared.effects.Read.{Read}
use Rattle.core_model.specs.CoreState.{UnitNo, GrainId, Mode, Member}
use Rattle.core_model.specs.declared.events.CoreEvent.TheVariants.{Refuse, Vote, Decide, Sealed, NotSealed}
use Rattle.core_history.specs.Histories.{Applied, Happened}
use Rattle.core_history.specs.Units.{reads_in, WroteIn}
use Rattle.core_history.specs.Batches.{InBatch}

-- A unit is dead where it was refused; where its batch was decided and the file of a grain that it wrote failed; where its
-- batch isn't on disk and never will be; or where it read from a dead unit.
pub data IsDeadIn (h : List Applied) : UnitNo → Type 0 where
  refused : {u : UnitNo} (g : GrainId) (mode : Mode) → Happened h (Refuse u g mode) → IsDeadIn h u
  voted_down : {u : UnitNo} (n : ℕ) (g : GrainId) → InBatch h n u → Happened h (Decide n) → WroteIn h u g → Happened h (Vote n g false) → IsDeadIn h u
  not_sealed : {u : UnitNo} (n : ℕ) → InBatch h n u → Happened h (NotSealed n) → IsDeadIn h u
  by_source : {u : UnitNo} (r : Read) → Member r (reads_in u h) → IsDeadIn h r.source → IsDeadIn h u

-- the unit's batch is on disk, and the unit isn't dead
abbrev pub IsCommittedIn : List Applied → UnitNo → Type 0
IsCommittedIn h u = (n : ℕ) × InBatch h n u × Happened h (Sealed n) × (IsDeadIn h u → ⊥)
