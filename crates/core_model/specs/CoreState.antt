-- The state of the core: functions of units and of grains, in three parts, one for each crate that keeps it.
use Rattle.std.specs.Prelude.{ℕ, List, Bool, Option, if◌then◌else◌}
pub use Rattle.cell_model.specs.Units.{nobody, same_unit, same_grain, Member}
pub use Rattle.cell_model.specs.Stacks.{top, cut}
pub use Rattle.cell_model.specs.declared.locks.Hold.{Hold}
pub use Rattle.cell_model.specs.declared.locks.Reading.{Reading}
pub use Rattle.cell_model.specs.declared.outcomes.Prepared.{Prepared}
pub use Rattle.cell_model.specs.declared.outcomes.Decision.{Decision}
pub use Rattle.base_types.specs.declared.stores.Version.{Version}
pub use Rattle.base_types.specs.declared.calls.UnitNo.{UnitNo}
pub use Rattle.base_types.specs.declared.calls.GrainId.{GrainId}
pub use Rattle.base_types.specs.declared.calls.Mode.{Mode}
pub use Rattle.base_types.specs.declared.calls.Value.{Value}
pub use Rattle.base_types.specs.declared.calls.Call.{Call}
pub use Rattle.base_types.specs.declared.calls.Outcome.{Outcome}
pub use Rattle.base_types.specs.declared.calls.Origin.{Origin}
pub use Rattle.base_types.specs.declared.entries.Entry.{Entry}
pub use Rattle.base_types.specs.declared.entries.Settled.{Settled}
pub use Rattle.core_model.specs.declared.effects.Read.{Read}
pub use Rattle.core_model.specs.declared.effects.Effect.{Effect}
pub use Rattle.core_model.specs.declared.phases.Phase.{Phase}
pub use Rattle.core_model.specs.declared.phases.Phase.TheVariants.{Unborn, Running, Finished, Refused, Ended}
pub use Rattle.core_model.specs.declared.phases.Verdict.{Verdict}
pub use Rattle.core_model.specs.declared.phases.Verdict.TheVariants.{Open, Chosen, Condemned, Committed, Aborted}

-- a grain with the state that a unit left in it
abbrev pub Write : Type 0
Write = GrainId × List Value

-- one unit's entry is replaced
unfoldable pub put : {A : Type 0} → (UnitNo → A) → UnitNo → A → UnitNo → A
put f u x v = if same_unit v u then x else f v

-- one grain's entry is replaced
unfoldable pub put_grain : {A : Type 0} → (GrainId → A) → GrainId → A → GrainId → A
put_grain f g x k = if same_grain k g then x else f k

-- what is known of each unit
pub record Units : Type 0 where
  pub next : ℕ  -- the number of the next unit
  pub lines : ℕ  -- how many lines have begun or are bad
  pub kinds : ℕ  -- how many types the program has
  pub phase : UnitNo → Phase
  pub origin : UnitNo → Origin
  pub call : UnitNo → Call
  pub plain : UnitNo → Bool
  pub kids : UnitNo → List UnitNo  -- in the order in which they began
  pub reads : UnitNo → List Read  -- in the order of first locks
  pub deps : UnitNo → List UnitNo  -- the sources that weren't known committed, oldest first
  pub seen_at : UnitNo → Option ℕ  -- of a snapshot run, how many records it saw
  pub wants : List (UnitNo × GrainId)  -- who waits for which grain to be loaded
  pub halt : Bool  -- the run is to stop

-- what is kept of each grain
pub record Cells : Type 0 where
  pub stack : GrainId → List Version  -- of a grain out of memory, what a load finds
  pub holds : GrainId → List Hold
  pub readings : GrainId → List Reading
  pub learnt : UnitNo → GrainId → Bool  -- the grain has learnt the unit's decision
  pub here : GrainId → Bool  -- the grain is in memory
  pub recent : List GrainId  -- the grains used last, the last one first
  pub capacity : Option ℕ  -- how many of them are kept; none where every grain stays in memory

-- a batch that is open
pub record Batch : Type 0 where
  pub number : ℕ
  pub size : ℕ
  pub plan : List GrainId  -- the grains whose files are the batch's work, in order, each once
  pub votes : List (GrainId × Bool)  -- in the order in which they came
  pub decisions : Option (List Decision)

-- what is finished and decided
pub record Manager : Type 0 where
  pub order : List UnitNo  -- the finish order
  pub place : UnitNo → ℕ  -- a finished unit's place in it, from 1
  pub writes : UnitNo → List Write
  pub answers : UnitNo → List Outcome
  pub result : UnitNo → Outcome
  pub verdict : UnitNo → Verdict
  pub closed : ℕ  -- how many units stand in closed batches
  pub batches : ℕ  -- how many batches were taken
  pub batch : Option Batch
  pub past : List Batch  -- the closed batches, as they were decided
  pub doubt : Option ℕ  -- where the batch in doubt began
  pub settled : List Entry
  pub emitted : ℕ  -- how many of them are written

-- the whole state
pub record CoreState : Type 0 where
  pub units : Units
  pub cells : Cells
  pub manager : Manager
