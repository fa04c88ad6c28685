-- What each settled entry comes from, in a history.
use Rattle.std.specs.Prelude.{◌≡◌, ◌⊎◌, ◌≤◌, ◌<◌, ℕ, List, [], ◌∷◌, ◌++◌, true, false, ◌||◌, Some}
use Rattle.base_types.specs.declared.entries.Settled.TheVariants as settled
use Rattle.cell_model.specs.Locks.{is_update}
use Rattle.core_model.specs.declared.effects.Read.{Read}
use Rattle.core_model.specs.CoreState.{UnitNo, GrainId, Mode, Outcome, Entry, Settled, Member, nobody}
use Rattle.core_model.specs.Tests.{is_before}
use Rattle.core_model.specs.Causes.{Settles, IsAbort}
use Rattle.core_model.specs.declared.events.CoreEvent.{CoreEvent}
use Rattle.core_model.specs.declared.events.CoreEvent.TheVariants.{Bad, Begin, Grant, Refuse, Finish, EndPlain, EndSnapshot, Release, Take, Vote, Decide, Sealed, NotSealed, Doubt, Learn, Emitted, Halt, Want, Load}
use Rattle.core_history.specs.Histories.{Applied, Happened}
use Rattle.core_history.specs.Units.{BeganFor, held, reads_in, result_in, WroteIn}
use Rattle.core_history.specs.Batches.{InBatch}
use Rattle.core_history.specs.Fates.{IsDeadIn}
use Rattle.core_history.specs.Dependencies.{IsDependency}
use Rattle.core_history.specs.GoneVersions.{IsGone}

-- another unit holds the grain, and one of the two modes is for one unit alone
pub record IsRival (h : List Applied) (u : UnitNo) (g : GrainId) (mode : Mode) (v : UnitNo) : Type 0 where
  pub other : v ≡ u → ⊥
  pub its : Mode
  pub holds : held v g h ≡ Some its
  pub conflict : (is_update mode || is_update its) ≡ true

-- The unit is refused the grain, and the other is the oldest rival there, and older than the unit.
pub record IsLockedOut (front : List Applied) (e : CoreEvent) (u by : UnitNo) (g : GrainId) : Type 0 where
  pub mode : Mode
  pub refused : e ≡ Refuse u g mode
  pub rival : IsRival front u g mode by
  pub oldest : (v : UnitNo) → IsRival front u g mode v → by.0 ≤ v.0
  pub older : by.0 < u.0

-- The unit is refused, and the other is the oldest source of what the unit read and what is gone; it is dead.
pub record IsDoomed (front : List Applied) (e : CoreEvent) (u on : UnitNo) : Type 0 where
  pub refused : (g : GrainId) × ((mode : Mode) × (e ≡ Refuse u g mode))
  pub gone : (r : Read) × Member r (reads_in u front) × (r.source ≡ on) × IsGone front r
  pub dead : IsDeadIn front on
  pub oldest : (r : Read) → Member r (reads_in u front) → IsGone front r → on.0 ≤ r.source.0

-- the unit's batch is decided or ended
abbrev pub IsSettledBy : List Applied → CoreEvent → ℕ → UnitNo → Type 0
IsSettledBy front e n u = Settles e n × InBatch front n u

-- The unit's batch is settled; it wrote the grain, whose file failed, and the grain is the first such.
pub record WasVotedDown (front : List Applied) (e : CoreEvent) (u : UnitNo) (g : GrainId) : Type 0 where
  pub batch : ℕ
  pub settled : IsSettledBy front e batch u
  pub wrote : WroteIn front u g
  pub failed : Happened front (Vote batch g false)
  pub first : (k : GrainId) → WroteIn front u k → Happened front (Vote batch k false) → is_before k g ≡ false

-- What had happened once the batch was decided. The event that decides it counts, and one that ends it later doesn't:
-- where a batch isn't on disk, all its units are dead from then on.
abbrev pub once_decided : List Applied → Applied → CoreEvent → List Applied
once_decided front at (Decide n) = front ++ at ∷ []
once_decided front at (Bad line why) = front
once_decided front at (Begin origin call plain) = front
once_decided front at (Grant v k new) = front
once_decided front at (Refuse v k new) = front
once_decided front at (Finish v effect) = front
once_decided front at (EndPlain v effect) = front
once_decided front at (EndSnapshot v seen outcome) = front
once_decided front at (Release v k) = front
once_decided front at Take = front
once_decided front at (Vote n k kept) = front
once_decided front at (Sealed n) = front
once_decided front at (NotSealed n) = front
once_decided front at (Doubt n) = front
once_decided front at (Learn v k) = front
once_decided front at Emitted = front
once_decided front at Halt = front
once_decided front at (Want v k) = front
once_decided front at (Load k v state) = front

-- The unit's batch is settled; no file that the unit wrote failed, and the other is the oldest of its dependencies that were
-- dead once the batch was decided.
pub record DependedOnDead (front : List Applied) (at : Applied) (u on : UnitNo) : Type 0 where
  pub batch : ℕ
  pub settled : IsSettledBy front at.event batch u
  pub written : (g : GrainId) → WroteIn front u g → Happened front (Vote batch g false) → ⊥
  pub source : IsDependency front u on
  pub dead : IsDeadIn (once_decided front at at.event) on
  pub oldest : (d : UnitNo) → IsDependency front u d → IsDeadIn (once_decided front at at.event) d → on.0 ≤ d.0

-- the unit's batch is of that number, and the unit isn't dead
abbrev pub CouldCommit : List Applied → ℕ → UnitNo → Type 0
CouldCommit front n u = InBatch front n u × (IsDeadIn front u → ⊥)

-- the unit ends as a plain run with that result, or its batch comes to disk, it isn't dead and finished with that result
abbrev pub EndedWith : List Applied → CoreEvent → UnitNo → Outcome → Type 0
EndedWith front (EndPlain v effect) u result = (v ≡ u) × (effect.result ≡ result)
EndedWith front (EndSnapshot v at outcome) u result = (v ≡ u) × (outcome ≡ result)
EndedWith front (Sealed n) u result = CouldCommit front n u × (result_in u front ≡ Some result)
EndedWith front (Bad line why) u result = ⊥
EndedWith front (Begin origin call plain) u result = ⊥
EndedWith front (Grant v k new) u result = ⊥
EndedWith front (Refuse v k new) u result = ⊥
EndedWith front (Finish v effect) u result = ⊥
EndedWith front (Release v k) u result = ⊥
EndedWith front Take u result = ⊥
EndedWith front (Vote n k kept) u result = ⊥
EndedWith front (Decide n) u result = ⊥
EndedWith front (NotSealed n) u result = ⊥
EndedWith front (Doubt n) u result = ⊥
EndedWith front (Learn v k) u result = ⊥
EndedWith front Emitted u result = ⊥
EndedWith front Halt u result = ⊥
EndedWith front (Want v k) u result = ⊥
EndedWith front (Load k v state) u result = ⊥

-- why an event, after what had happened in front of it, settles a unit so
abbrev pub CauseIn : List Applied → Applied → UnitNo → Settled → Type 0
CauseIn front at u (settled.Done result) = EndedWith front at.event u result
CauseIn front at u (settled.Lock by g) = IsLockedOut front at.event u by g
CauseIn front at u (settled.Vote g) = WasVotedDown front at.event u g
CauseIn front at u (settled.Dependency on) = IsDoomed front at.event u on ⊎ DependedOnDead front at u on
CauseIn front at u settled.Disk = (n : ℕ) × (at.event ≡ NotSealed n) × CouldCommit front n u
CauseIn front at u settled.InDoubt = (n : ℕ) × (at.event ≡ Doubt n) × CouldCommit front n u
CauseIn front at u (settled.Bad why) = (line : ℕ) × (at.event ≡ Bad line why)

-- a bad line has nobody's unit and its own number; every other entry has the line that its unit began for
abbrev pub HasLineIn : List Applied → CoreEvent → Entry → Settled → Type 0
HasLineIn front e x (settled.Bad why) = (x.unit ≡ nobody) × (e ≡ Bad x.line why)
HasLineIn front e x (settled.Done result) = BeganFor front x.unit x.line
HasLineIn front e x (settled.Lock by g) = BeganFor front x.unit x.line
HasLineIn front e x (settled.Vote g) = BeganFor front x.unit x.line
HasLineIn front e x (settled.Dependency on) = BeganFor front x.unit x.line
HasLineIn front e x settled.Disk = BeganFor front x.unit x.line
HasLineIn front e x settled.InDoubt = BeganFor front x.unit x.line

-- an event of the history settled the entry, with its cause
pub record IsCausedIn (h : List Applied) (x : Entry) : Type 0 where
  pub front : List Applied
  pub at : Applied
  pub back : List Applied
  pub split : h ≡ front ++ (at ∷ back)
  pub cause : CauseIn front at x.unit x.what
  pub line : HasLineIn front at.event x x.what

-- an event of the history aborted the unit, with this cause
pub record IsAbortedIn (h : List Applied) (u : UnitNo) (why : Settled) : Type 0 where
  pub front : List Applied
  pub at : Applied
  pub back : List Applied
  pub split : h ≡ front ++ (at ∷ back)
  pub abort : IsAbort why
  pub cause : CauseIn front at u why
