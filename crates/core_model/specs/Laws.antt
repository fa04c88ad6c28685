-- Further laws: batches, the dead, outcomes and children.
use Rattle.std.specs.Prelude.{◌≡◌, ◌⊎◌, ◌≤◌, ◌<◌, ℕ, List, ◌++◌, Some, length, get_or, take, map}
use Rattle.base_types.specs.declared.calls.Origin.TheVariants.{Child}
use Rattle.core_model.specs.CoreState.{UnitNo, GrainId, nobody, Member, Unborn, Finished, Ended, Committed, Hold, Batch, CoreState}
use Rattle.core_model.specs.Tests.{waiting, members, outcome_of}
use Rattle.core_model.specs.Events.{CoreEvent}
use Rattle.core_model.specs.LegalRuns.{Run}

-- the unit holds no lock
abbrev pub HoldsNothing : CoreState → UnitNo → Type 0
HoldsNothing w u = (g : GrainId) (h : Hold) → Member h (w.cells.holds g) → h.unit ≡ u → ⊥

-- The first so many finished undecided units hold no lock; there are at most 64 of them, and fewer only where all are taken
-- or the next one holds a lock.
pub record IsLongestFreePrefix (w : CoreState) (size : ℕ) : Type 0 where
  pub limit : size ≤ 64
  pub within : size ≤ length (waiting w)
  pub free : (u : UnitNo) → Member u (take size (waiting w)) → HoldsNothing w u
  pub longest : (size ≡ 64) ⊎ ((size ≡ length (waiting w)) ⊎ ((g : GrainId) × ((h : Hold) × Member h (w.cells.holds g) × (h.unit ≡ get_or (waiting w) size nobody))))

-- No unit of a batch that was taken holds a lock, and each committed unit is one of a closed batch.
pub record NoLockIsHeldUntilCommit (w : CoreState) : Type 0 where
  pub committed : (u : UnitNo) → w.manager.verdict u ≡ Committed → (w.units.phase u ≡ Finished) × (w.manager.place u ≤ w.manager.closed)
  pub closed : (u : UnitNo) → w.units.phase u ≡ Finished → w.manager.place u ≤ w.manager.closed → HoldsNothing w u
  pub taken : (b : Batch) (u : UnitNo) → w.manager.batch ≡ Some b → Member u (members w b) → HoldsNothing w u

-- a run that goes on
abbrev pub extended : Run → List CoreEvent → Run
extended r more = record r { events = r.events ++ more }

-- A child is known by its parent and its index, is younger, and finishes first.
pub record ChildrenAreKnown (w : CoreState) : Type 0 where
  pub listed : (c p : UnitNo) (i d : ℕ) → (w.units.phase c ≡ Unborn → ⊥) → w.units.origin c ≡ Child p i d → (i < length (w.units.kids p)) × (get_or (w.units.kids p) i nobody ≡ c)
  pub origin : (p : UnitNo) (i : ℕ) → i < length (w.units.kids p) → (d : ℕ) × (w.units.origin (get_or (w.units.kids p) i nobody) ≡ Child p i d) × (w.units.phase (get_or (w.units.kids p) i nobody) ≡ Unborn → ⊥)
  pub younger : (p c : UnitNo) → Member c (w.units.kids p) → p.0 < c.0
  pub first : (p c : UnitNo) → Member c (w.units.kids p) → w.units.phase p ≡ Finished → w.units.phase c ≡ Finished → w.manager.place c < w.manager.place p

-- The answers of a unit that came to its end are its children's outcomes, in the order in which they began.
abbrev pub AnswersAreOutcomes : CoreState → Type 0
AnswersAreOutcomes w = (p : UnitNo) → (w.units.phase p ≡ Finished) ⊎ (w.units.phase p ≡ Ended) → map (outcome_of w) (w.units.kids p) ≡ map Some (w.manager.answers p)
