-- What is kept, and which states of the model it stands for.
use Rattle.std.specs.Prelude.{◌≡◌, ◌<◌, ◌≤◌, ◌+◌, ◌^◌, ℕ, List, [], ◌∷◌, Bool, true, Option, Some, None, is_some, length, map, take, ⊤}
use Rattle.cell_model.specs.Units.{Member}
use Rattle.cell_model.specs.Locks.{holds_lock}
use Rattle.core_model.specs.CoreState.{UnitNo, GrainId, Write, Batch, CoreState}
use Rattle.core_model.specs.declared.phases.Phase.TheVariants.{Finished}
use Rattle.core_model.specs.Tests.{waiting, state_written}
use Rattle.core_model.specs.Answers.{effect_of}
use Rattle.core_model.specs.LegalRuns.{Run, ends}
use Rattle.cell_memory.specs.KeptCells.{StandsForCells}
use Rattle.cell_table.specs.Table.{cells_kept, opens_with, used_of}
use Rattle.unit_table.specs.Table.{units_of, verdict_in, result_in}
use Rattle.open_batch.specs.declared.members.FinishedUnit.{FinishedUnit}
use Rattle.open_batch.specs.Members.{effect_in, sources_in}
use Rattle.open_batch.specs.TakenBatch.{TakenBatch}
use Rattle.open_batch.specs.ShownBatch.{ShowsBatch}
use Rattle.core_parts.specs.States.{last_in, has_place, handed_in}
use Rattle.history_core.specs.declared.parts.Parts.{Parts}
use Rattle.history_core.specs.ClosedUnits.{last_state, unlearnt, ArePlaced}

-- how many grains these units wrote
abbrev pub writes_in : List FinishedUnit → ℕ
writes_in [] = 0
writes_in (f ∷ fs) = length f.effect.writes + writes_in fs

-- so has each that these units wrote
abbrev pub AllPlaced : (GrainId → Bool) → List FinishedUnit → Type 0
AllPlaced placed [] = ⊤
AllPlaced placed (f ∷ fs) = ArePlaced placed f.effect.writes × AllPlaced placed fs

-- what is kept of the open batch shows it, with the first of the finished units, and there is none where there is none
abbrev pub ShowsOpen : Option TakenBatch → List FinishedUnit → Option Batch → Type 0
ShowsOpen None waiting None = ⊤
ShowsOpen (Some x) waiting (Some b) = ShowsBatch x (take b.size waiting) b
ShowsOpen None waiting (Some b) = ⊥
ShowsOpen (Some x) waiting None = ⊥

-- how many units the open batch has
abbrev pub owed_in : Option TakenBatch → ℕ
owed_in None = 0
owed_in (Some x) = x.size

-- the units of the open batch
abbrev pub members_in : Parts → List FinishedUnit
members_in p = take (owed_in p.batch) p.waiting.items

-- what is kept of the open batch shows it, in one way at most
pub record ShowsTakenBatch (o : Option TakenBatch) (waiting : List FinishedUnit) (b : Option Batch) : Type 0 where
  pub same : is_some o ≡ is_some b
  pub shows : (x : TakenBatch) (c : Batch) → o ≡ Some x → b ≡ Some c → ShowsBatch x (take c.size waiting) c

-- each grain that these units wrote has a place
abbrev pub EachPlaced : (GrainId → Bool) → List FinishedUnit → Type 0
EachPlaced placed members = (m : FinishedUnit) → Member m members → (x : Write) → Member x m.effect.writes → placed x.0 ≡ true

-- The room of the entries of the open batch, of the states that its units wrote, and of what the grains have to learn of them.
pub record HasRoom (p : Parts) : Type 0 where
  pub entries : owed_in p.batch ≤ p.entries.spare
  pub learn : writes_in (members_in p) ≤ p.learn.spare
  pub places : EachPlaced (has_place p.last) (members_in p)

-- What is kept stands for the state: units, verdicts, results and entries as they are, with numbers below 2^63 for the units so far;
-- the cells of the grains in memory, and which grains were used last; the finished units that wait with their effects and their dependencies; the open batch; of what the grains have
-- learnt what they still have to learn; of what was written what a finished unit has still to release, and the last committed
-- state of each grain.
pub record PartsStand (p : Parts) (w : CoreState) : Type 0 where
  pub units : w.units ≡ units_of p.units w.units.seen_at
  pub numbers : w.units.next ≤ 2 ^ 63
  pub cells : StandsForCells (opens_with p.cells).limit (cells_kept p.cells) (used_of p.cells.recent) w.cells
  pub verdict : w.manager.verdict ≡ verdict_in p.units
  pub result : w.manager.result ≡ result_in p.units
  pub effects : map effect_in p.waiting.items ≡ map (effect_of w) (waiting w)
  pub sources : map sources_in p.waiting.items ≡ map w.units.deps (waiting w)
  pub batch : ShowsTakenBatch p.batch p.waiting.items w.manager.batch
  pub batches : w.manager.batches ≡ p.batches
  pub doubt : is_some w.manager.doubt ≡ p.doubt
  pub settled : w.manager.settled ≡ p.entries.entries
  pub emitted : w.manager.emitted ≡ p.entries.emitted
  pub learn : p.learn.pairs ≡ unlearnt w
  pub handed : (u : UnitNo) (g : GrainId) → w.units.phase u ≡ Finished → holds_lock u (w.cells.holds g) ≡ true → handed_in p.handed u g ≡ state_written g (w.manager.writes u)
  pub last : (g : GrainId) → last_in p.last g ≡ last_state w g
  pub room : HasRoom p

-- the state is the last one of a run in which units are numbered from 1 on
abbrev pub IsCoreReached : CoreState → Type 0
IsCoreReached w = (r : Run) × (0 < r.base) × (ends r ≡ w)

-- what is kept stands for such a state
abbrev pub StandsForReached : Parts → Type 0
StandsForReached p = (w : CoreState) × PartsStand p w × IsCoreReached w
