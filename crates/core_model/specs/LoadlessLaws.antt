-- What holds after every list of events, whatever was loaded: what code may rely on.
use Rattle.std.specs.Prelude.{◌≡◌, ◌≤◌, List, length, true, None, Some}
use Rattle.cell_model.specs.Locks.{is_update}
use Rattle.core_model.specs.CoreState.{UnitNo, GrainId, Member, Unborn, Finished, Hold, Batch, Decision, CoreState}
use Rattle.core_model.specs.Tests.{members}
use Rattle.core_model.specs.Chains.{WroteGrain}
use Rattle.core_model.specs.Consistency.{ClosedBatchesArePrefix, ExclusiveHolderIsAlone}
use Rattle.core_model.specs.Memory.{MemoryIsBounded}
use Rattle.core_model.specs.Lines.{EntriesAreOnce}
use Rattle.core_model.specs.Laws.{NoLockIsHeldUntilCommit, ChildrenAreKnown, AnswersAreOutcomes}
use Rattle.core_model.specs.Holders.{HoldersHaveRead}
use Rattle.core_model.specs.ToldOutcomes.{OnlyTheBatchIsJudged}

-- each unit of a decided open batch has a decision
abbrev pub EachIsDecided : CoreState → Type 0
EachIsDecided w = (b : Batch) (ds : List Decision) → w.manager.batch ≡ Some b → b.decisions ≡ Some ds → length ds ≡ length (members w b)

-- a grain on which somebody holds a lock is in memory
abbrev pub HeldAreHere : CoreState → Type 0
HeldAreHere w = (g : GrainId) (h : Hold) → Member h (w.cells.holds g) → w.cells.here g ≡ true

-- The closed batches are a prefix of the finish order, which has room for the open one, of 1 to 64 units; unless a batch is in
-- doubt, who is judged is of the decided open batch, in which each unit has a decision. No unit of a closed or open batch
-- holds a lock. An exclusive holder is alone, and a running unit holds all that it was granted; a finished unit that still
-- holds what it wrote holds it alone. Holders have read what they hold, which is in memory, and memory is bounded. Children
-- are known, and what a unit was answered are their outcomes. Each line is answered once. Units from the next number on
-- haven't begun.
pub record HoldsWithoutLoads (w : CoreState) : Type 0 where
  pub prefix : ClosedBatchesArePrefix w
  pub judged : w.manager.doubt ≡ None → OnlyTheBatchIsJudged w
  pub decisions : EachIsDecided w
  pub locks : NoLockIsHeldUntilCommit w
  pub holders : ExclusiveHolderIsAlone w
  pub writers : (u : UnitNo) (g : GrainId) (h : Hold) → w.units.phase u ≡ Finished → WroteGrain w.manager.writes u g → Member h (w.cells.holds g) → h.unit ≡ u →
      (k : Hold) × Member k (w.cells.holds g) × (k.unit ≡ u) × (is_update k.mode ≡ true)
  pub read : HoldersHaveRead w
  pub here : HeldAreHere w
  pub memory : MemoryIsBounded w
  pub children : ChildrenAreKnown w
  pub answers : AnswersAreOutcomes w
  pub entries : EntriesAreOnce w
  pub fresh : (u : UnitNo) → w.units.next ≤ u.0 → w.units.phase u ≡ Unborn
