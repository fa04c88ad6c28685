-- The core invariant: nine facts that hold after every legal run.
use Rattle.std.specs.Prelude.{◌≡◌, ◌⊎◌, ◌≤◌, ◌<◌, ◌+◌, ℕ, List, [], ◌∷◌, Bool, true, false, Option, Some, None, length, get_or}
use Rattle.cell_model.specs.Locks.{is_update}
use Rattle.cell_model.specs.Units.{UnitsAscend}
use Rattle.core_model.specs.CoreState.{UnitNo, GrainId, nobody, Member, Value, Running, Finished, Ended, Chosen, Committed, Aborted, Read, Effect, Version, Hold, Batch, CoreState}
use Rattle.core_model.specs.Tests.{is_good, is_final, state_written}
use Rattle.core_model.specs.DeadUnits.{IsDead}
use Rattle.core_model.specs.Chains.{Chain, WroteGrain, IsBottom, IsLink}
use Rattle.core_model.specs.Answers.{effect_of}
use Rattle.core_model.specs.SerialOrder.{batch_begin, IsLastVersion}

-- how many units the open batch has
abbrev pub size_of : Option Batch → ℕ
size_of None = 0
size_of (Some b) = b.size

-- the finished units stand in the finish order, each at its place
pub record HasOrderedPlaces (w : CoreState) : Type 0 where
  pub listed : (i : ℕ) → i < length w.manager.order → (w.units.phase (get_or w.manager.order i nobody) ≡ Finished) × (w.manager.place (get_or w.manager.order i nobody) ≡ i + 1)
  pub placed : (u : UnitNo) → w.units.phase u ≡ Finished → (i : ℕ) × (i < length w.manager.order) × (w.manager.place u ≡ i + 1) × (get_or w.manager.order i nobody ≡ u)

-- The units of closed batches are a prefix of the finish order, and an open batch of 1 to 64 units follows directly.
-- Who stands in the prefix is decided for good, but for those to commit of the batch in doubt at its end; nobody else is.
pub record ClosedBatchesArePrefix (w : CoreState) : Type 0 where
  pub order : HasOrderedPlaces w
  pub within : w.manager.closed + size_of w.manager.batch ≤ length w.manager.order
  pub size : (b : Batch) → w.manager.batch ≡ Some b → (0 < b.size) × (b.size ≤ 64)
  pub decided : (u : UnitNo) → w.units.phase u ≡ Finished → w.manager.place u ≤ batch_begin w.manager.doubt w.manager.closed → is_final (w.manager.verdict u) ≡ true
  pub in_doubt : (u : UnitNo) → w.units.phase u ≡ Finished → batch_begin w.manager.doubt w.manager.closed < w.manager.place u → w.manager.place u ≤ w.manager.closed → (w.manager.verdict u ≡ Chosen) ⊎ (w.manager.verdict u ≡ Aborted)
  pub undecided : (u : UnitNo) → w.units.phase u ≡ Finished → w.manager.closed < w.manager.place u → is_final (w.manager.verdict u) ≡ false

-- Where a unit holds a grain for itself alone it is the only holder. A running unit holds all that it was granted.
pub record ExclusiveHolderIsAlone (w : CoreState) : Type 0 where
  pub alone : (g : GrainId) (h k : Hold) → Member h (w.cells.holds g) → Member k (w.cells.holds g) → is_update h.mode ≡ true → k.unit ≡ h.unit
  pub holds : (u : UnitNo) (r : Read) → w.units.phase u ≡ Running → Member r (w.units.reads u) → (h : Hold) × Member h (w.cells.holds r.grain) × (h.unit ≡ u)

-- The source of each read is nobody, with the opening state, or a finished unit that wrote that state there, and
-- that stands before the reader where the reader has finished.
abbrev pub SourcesAreTruthful : (GrainId → List Value) → CoreState → Type 0
SourcesAreTruthful opening w = (u : UnitNo) (r : Read) → Member r (w.units.reads u) →
    ((r.source ≡ nobody) × (r.state ≡ opening r.grain))
    ⊎ ((w.units.phase r.source ≡ Finished) × (state_written r.grain (w.manager.writes r.source) ≡ Some r.state) × (w.units.phase u ≡ Finished → w.manager.place r.source < w.manager.place u))

-- Each finished writer of a grain after the source of a read there, and before the reader where it has finished, is dead.
abbrev pub NoLiveWriterBetween : CoreState → Type 0
NoLiveWriterBetween w = (u : UnitNo) (r : Read) (x : UnitNo) → Member r (w.units.reads u) →
    (w.units.phase u ≡ Running) ⊎ ((w.units.phase u ≡ Finished) × (w.manager.place x < w.manager.place u)) →
    w.units.phase x ≡ Finished → WroteGrain w.manager.writes x r.grain → w.manager.place r.source < w.manager.place x → IsDead w x

-- A unit's dependencies are the sources that weren't known committed at their grant, oldest first. Those of a finished
-- unit stand before it in the finish order.
pub record DependenciesComeEarlier (w : CoreState) : Type 0 where
  pub ascending : (u : UnitNo) → UnitsAscend (w.units.deps u)
  pub sources : (u d : UnitNo) → Member d (w.units.deps u) → (r : Read) × Member r (w.units.reads u) × (r.source ≡ d) × (d ≡ nobody → ⊥)
  pub others : (u : UnitNo) (r : Read) → Member r (w.units.reads u) → (r.source ≡ nobody) ⊎ ((w.manager.verdict r.source ≡ Committed) ⊎ Member r.source (w.units.deps u))
  pub earlier : (u d : UnitNo) → w.units.phase u ≡ Finished → Member d (w.units.deps u) → (w.units.phase d ≡ Finished) × (w.manager.place d < w.manager.place u)

-- The bottom of each stack is the opening state or a committed version; the writer of each version above read the one
-- below it; and each writer has released the grain.
pub record StacksAreChains (opening : GrainId → List Value) (w : CoreState) : Type 0 where
  pub chain : (g : GrainId) → Chain (IsBottom opening w.units.phase w.manager.writes w.manager.verdict g) (IsLink w.units.phase w.manager.writes w.units.reads g) (w.cells.stack g)
  pub released : (g : GrainId) (x : Version) (h : Hold) → Member x (w.cells.stack g) → Member h (w.cells.holds g) → h.unit ≡ x.unit → ⊥

-- the oldest version
abbrev pub bottom : List Version → Version
bottom [] = record { unit = nobody; state = [] }
bottom (x ∷ []) = x
bottom (x ∷ y ∷ ys) = bottom (y ∷ ys)

-- A writer of a grain that has released it and isn't dead is in the grain's stack, or stands before the bottom's unit.
-- The stack of a grain out of memory is its last committed version alone.
pub record NoLiveWriterIsLost (opening : GrainId → List Value) (w : CoreState) : Type 0 where
  pub in_stack : (u : UnitNo) (g : GrainId) → w.units.phase u ≡ Finished → WroteGrain w.manager.writes u g → ((h : Hold) → Member h (w.cells.holds g) → h.unit ≡ u → ⊥) →
      IsDead w u ⊎ (((x : Version) × Member x (w.cells.stack g) × (x.unit ≡ u)) ⊎ (w.manager.place u < w.manager.place (bottom (w.cells.stack g)).unit))
  pub out_of_memory : (g : GrainId) → w.cells.here g ≡ false → (x : Version) × (w.cells.stack g ≡ x ∷ []) × IsLastVersion opening w g x.unit x.state

-- No unit that is committed or to commit is dead, and its sources are such too; those of a committed one are committed.
pub record CommittedAreAlive (w : CoreState) : Type 0 where
  pub alive : (u : UnitNo) → is_good (w.manager.verdict u) ≡ true → IsDead w u → ⊥
  pub to_commit : (u : UnitNo) (r : Read) → is_good (w.manager.verdict u) ≡ true → Member r (w.units.reads u) → (r.source ≡ nobody) ⊎ (is_good (w.manager.verdict r.source) ≡ true)
  pub committed : (u : UnitNo) (r : Read) → w.manager.verdict u ≡ Committed → Member r (w.units.reads u) → (r.source ≡ nobody) ⊎ (w.manager.verdict r.source ≡ Committed)

-- The effect of each finished unit is a play over its reads, with its answers.
abbrev pub EffectsArePlays : (Effect → Bool) → CoreState → Type 0
EffectsArePlays plays w = (u : UnitNo) → w.units.phase u ≡ Finished → plays (effect_of w u) ≡ true

-- what a plain run did: it touched no grain
abbrev pub plain_effect : CoreState → UnitNo → Effect
plain_effect w u = record (effect_of w u) { reads = []; writes = [] }

-- The effect of each plain run that came to its end, and read no snapshot, is a play with its answers.
abbrev pub PlainRunsArePlays : (Effect → Bool) → CoreState → Type 0
PlainRunsArePlays plays w = (u : UnitNo) → w.units.phase u ≡ Ended → w.units.seen_at u ≡ None → plays (plain_effect w u) ≡ true

-- the nine facts
pub record IsConsistent (plays : Effect → Bool) (opening : GrainId → List Value) (w : CoreState) : Type 0 where
  pub closed_batches_are_a_prefix : ClosedBatchesArePrefix w
  pub exclusive_holder_is_alone : ExclusiveHolderIsAlone w
  pub sources_are_truthful : SourcesAreTruthful opening w
  pub no_live_writer_between : NoLiveWriterBetween w
  pub dependencies_come_earlier : DependenciesComeEarlier w
  pub stacks_are_chains : StacksAreChains opening w
  pub no_live_writer_is_lost : NoLiveWriterIsLost opening w
  pub committed_are_alive : CommittedAreAlive w
  pub effects_are_plays : EffectsArePlays plays w
