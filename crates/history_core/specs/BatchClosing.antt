-- How code closes a batch, by what is kept.
use Rattle.std.specs.Prelude.{◌≡◌, ◌≤◌, ℕ, List, ◌++◌, Option, Some, None, length, drop, map}
use Rattle.core_model.specs.CoreState.{UnitNo, GrainId, Decision}
use Rattle.core_model.specs.declared.effects.Effect.{Effect}
use Rattle.core_model.specs.declared.phases.Verdict.{Verdict}
use Rattle.core_model.specs.Tests.{is_over}
use Rattle.core_parts.specs.States.{last_in, has_place}
use Rattle.core_parts.specs.declared.entry_list.EntryList.{EntryList}
use Rattle.core_parts.specs.declared.learn_queue.LearnQueue.{LearnQueue}
use Rattle.core_parts.specs.declared.last_states.LastStates.{LastStates}
use Rattle.unit_table.specs.declared.table.UnitTable.{UnitTable}
use Rattle.unit_table.specs.Table.{units_of, verdict_in, result_in, phase_in}
use Rattle.open_batch.specs.Members.{effect_in}
use Rattle.open_batch.specs.TakenBatch.{TakenBatch}
use Rattle.history_core.specs.declared.parts.Parts.{Parts}
use Rattle.history_core.specs.declared.batch_closing.Closing.{Closing}
use Rattle.history_core.specs.Fronts.{ends_as, verdicts_after, entries_after, pairs_after, last_after, writes_after, AreOver, PlacedAfter}

-- Units with these effects can close by these decisions: they are over, and there is room for what they leave.
pub record AreClosable (ds : List Decision) (es : List Effect) (units : UnitTable) (list : EntryList) (queue : LearnQueue) (states : LastStates) : Type 0 where
  pub over : AreOver (λ u. is_over (phase_in units u)) ds es
  pub entries : length ds ≤ list.spare
  pub learn : writes_after ds es ≤ queue.spare
  pub placed : PlacedAfter (has_place states) ds es

-- there are these decisions, for units that wait and can close by them
pub record Ready (p : Parts) (ds : List Decision) : Type 0 where
  pub within : length ds ≤ length p.waiting.items
  pub closable : AreClosable ds (map effect_in p.waiting.items) p.units p.entries p.learn p.last

-- a decided batch is open, and all is there for it to close
abbrev pub IsReadyToClose : Parts → Type 0
IsReadyToClose p = (x : TakenBatch) × (ds : List Decision) × (p.batch ≡ Some x) × (x.decisions ≡ Some ds) × Ready p ds

-- the decisions of the open batch
abbrev pub decisions_in : Option TakenBatch → Option (List Decision)
decisions_in None = None
decisions_in (Some x) = x.decisions

-- what becomes of a unit's verdict
abbrev pub verdict_by : Closing → UnitTable → UnitNo → Verdict
verdict_by h units u = ends_as h (verdict_in units u)

-- of the units no more than verdicts changed
pub record OnlyVerdictsChange (old new : UnitTable) : Type 0 where
  pub units : (seen : UnitNo → Option ℕ) → units_of new seen ≡ units_of old seen
  pub result : result_in new ≡ result_in old

-- What is left where units with these effects close by these decisions: their verdicts and their entries, what their grains have to
-- learn, and the states of those that are committed.
pub record ClosesUnits (h : Closing) (ds : List Decision) (es : List Effect) (units units' : UnitTable) (list list' : EntryList) (queue queue' : LearnQueue) (states states' : LastStates) : Type 0 where
  pub others : OnlyVerdictsChange units units'
  pub verdict : verdict_in units' ≡ verdicts_after (ends_as h) ds es (verdict_in units)
  pub entries : list'.entries ≡ list.entries ++ entries_after h ds es
  pub emitted : list'.emitted ≡ list.emitted
  pub pairs : queue'.pairs ≡ queue.pairs ++ pairs_after (ends_as h) ds es (verdict_in units)
  pub last : (g : GrainId) → last_in states' g ≡ last_after (ends_as h) g ds es (verdict_in units) (last_in states g)

-- what code leaves where a batch with these decisions closes
pub record Closes (h : Closing) (ds : List Decision) (p q : Parts) : Type 0 where
  pub units : ClosesUnits h ds (map effect_in p.waiting.items) p.units q.units p.entries q.entries p.learn q.learn p.last q.last
  pub waiting : q.waiting.items ≡ drop (length ds) p.waiting.items
  pub cells : q.cells ≡ p.cells
  pub batches : q.batches ≡ p.batches
  pub batch : q.batch ≡ None
  pub handed : q.handed ≡ p.handed
