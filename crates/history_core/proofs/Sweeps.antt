-- The state that an event leaves, once the grains that it touches are out of memory where they are idle.
use Rattle.std.proofs.Common.{◌≡◌, ℕ, List, [], Bool, true, refl, sym, ap, ◌∙◌, subst, Option, Some, None}
use Rattle.std.proofs.lemmas.Bool.{cond-true}
use Rattle.core_model.specs.CoreState.{UnitNo, GrainId, Cells, CoreState}
use Rattle.core_model.specs.Changes.{swept, swept_by, without_wants}
use Rattle.core_model.specs.declared.phases.Phase.{Phase}
use Rattle.core_model.specs.Events.{applies, does, step}
use Rattle.core_model.specs.declared.events.CoreEvent.{CoreEvent}
use Rattle.core_model.specs.declared.events.CoreReply.{CoreReply}
use Rattle.core_model.specs.LegalRuns.{Run, ends}
use Rattle.cell_memory.specs.KeptCells.{CellsKept, StandsForCells}
use Rattle.cell_memory.specs.LeavingGrains.{evicted_by, touches}
use Rattle.cell_memory.proofs.EveryEvent.{local}
use Rattle.cell_table.specs.Table.{cells_kept, opens_with, used_of}
use Rattle.cell_table.specs.declared.table.CellTable.{CellTable}
use Rattle.cell_table.proofs.LeavingGrains.{none-leave}
use Rattle.unit_table.specs.Parts.{units_over}
use Rattle.unit_table.specs.Table.{units_of, wants_in}
use Rattle.unit_table.specs.declared.table.UnitTable.{UnitTable}
use Rattle.history_core.specs.declared.parts.Parts.{Parts}
use Rattle.history_core.specs.KeptParts.{PartsStand, IsCoreReached}
use Rattle.history_core.specs.Steps.{Changes, Does}
use Rattle.history_core.proofs.MemoryCells.{stands-as}

-- what the touched grains leave stands for the cells behind the sweep
swept-cells : (w : CoreState) (e : CoreEvent) (limit : Option ℕ) (cell : CellsKept) (used : List GrainId) → IsCoreReached w → applies w e ≡ true →
    StandsForCells limit cell used (does w e).cells → StandsForCells limit (evicted_by limit (does w e).units.wants used (touches w e) cell) used (swept (does w e)).cells
swept-cells w e limit cell used r a s =
    subst (λ (v : CoreState). applies v e ≡ true → StandsForCells limit cell used (does v e).cells → StandsForCells limit (evicted_by limit (does v e).units.wants used (touches v e) cell) used (swept (does v e)).cells) r.2
    (λ b t. subst (λ (v : CoreState). StandsForCells limit (evicted_by limit (does (ends r.0) e).units.wants used (touches (ends r.0) e) cell) used v.cells)
    (cond-true (applies (ends r.0) e) (swept (does (ends r.0) e)) (ends r.0) b) (local r.0 e limit cell used r.1 b t)) a s

-- the sweep changes nothing but who is in memory
swept-parts : (q : Parts) (v : CoreState) (new : CellTable) → PartsStand q v → StandsForCells (opens_with new).limit (cells_kept new) (used_of new.recent) (swept v).cells → PartsStand (record q { cells = new }) (swept v)
swept-parts q v new s k = go v.cells.capacity k
  where
    go : (c : Option ℕ) → StandsForCells (opens_with new).limit (cells_kept new) (used_of new.recent) (swept_by v c).cells → PartsStand (record q { cells = new }) (swept_by v c)
    go None t = record {
      units = s.units;
      numbers = s.numbers;
      cells = t;
      verdict = s.verdict;
      result = s.result;
      effects = s.effects;
      sources = s.sources;
      batch = s.batch;
      batches = s.batches;
      doubt = s.doubt;
      settled = s.settled;
      emitted = s.emitted;
      learn = s.learn;
      handed = s.handed;
      last = s.last;
      room = record { entries = s.room.entries; learn = s.room.learn; places = s.room.places };
    }
    go (Some n) t = record {
      units = s.units;
      numbers = s.numbers;
      cells = t;
      verdict = s.verdict;
      result = s.result;
      effects = s.effects;
      sources = s.sources;
      batch = s.batch;
      batches = s.batches;
      doubt = s.doubt;
      settled = s.settled;
      emitted = s.emitted;
      learn = s.learn;
      handed = s.handed;
      last = s.last;
      room = record { entries = s.room.entries; learn = s.room.learn; places = s.room.places };
    }

-- where the touched grains are gone that leave
pub evicts : (q : Parts) (w : CoreState) (e : CoreEvent) (new : CellTable) (wants : List (UnitNo × GrainId)) (gs : List GrainId) → IsCoreReached w → applies w e ≡ true → PartsStand q (does w e) →
    wants ≡ (does w e).units.wants → touches w e ≡ gs → cells_kept new ≡ evicted_by (opens_with q.cells).limit wants (used_of q.cells.recent) gs (cells_kept q.cells) →
    new.recent ≡ q.cells.recent → opens_with new ≡ opens_with q.cells → PartsStand (record q { cells = new }) (swept (does w e))
evicts q w e new wants gs r a s waits touched kept recent opens =
    swept-parts q (does w e) new s
    (stands-as (opens_with q.cells).limit (opens_with new).limit (evicted_by (opens_with q.cells).limit (does w e).units.wants (used_of q.cells.recent) (touches w e) (cells_kept q.cells)) (cells_kept new)
    (used_of q.cells.recent) (used_of new.recent) (swept (does w e)).cells (λ i. (opens i).limit)
    (kept ∙ (λ i. evicted_by (opens_with q.cells).limit (waits i) (used_of q.cells.recent) (sym touched i) (cells_kept q.cells))) (ap used_of recent)
    (swept-cells w e (opens_with q.cells).limit (cells_kept q.cells) (used_of q.cells.recent) r a s.cells))

-- an event that touches no grain
pub unmoved : (q : Parts) (w : CoreState) (e : CoreEvent) → IsCoreReached w → applies w e ≡ true → touches w e ≡ [] → PartsStand q (does w e) → PartsStand q (swept (does w e))
unmoved q w e r a none s =
    evicts q w e q.cells (does w e).units.wants [] r a s refl none
    (sym (none-leave (opens_with q.cells).limit (does w e).units.wants (used_of q.cells.recent) (cells_kept q.cells))) refl refl

-- what an event does, and then the grains that leave
pub does-evicting : (p q : Parts) (e : CoreEvent) (reply : CoreReply) (new : CellTable) (wants : List (UnitNo × GrainId)) (gs : List GrainId) → Changes p e reply q → wants ≡ wants_in q.units →
    ((w : CoreState) → PartsStand p w → IsCoreReached w → applies w e ≡ true → touches w e ≡ gs) →
    cells_kept new ≡ evicted_by (opens_with q.cells).limit wants (used_of q.cells.recent) gs (cells_kept q.cells) → new.recent ≡ q.cells.recent → opens_with new ≡ opens_with q.cells →
    Does p e reply (record q { cells = new })
does-evicting p q e reply new wants gs change waits touched kept recent opens = λ w s r a.
    (let t = change w s r a in
    (evicts q w e new wants gs r a t.0 (waits ∙ (λ i. (sym t.0.units i).wants)) (touched w s r a) kept recent opens, t.1))

-- what the unit waited for, once its waits are gone
pub waits-over : (t n : UnitTable) (u : UnitNo) (end : Phase) → ((seen : UnitNo → Option ℕ) → units_of n seen ≡ units_over (units_of t seen) u end) → without_wants u (wants_in t) ≡ wants_in n
waits-over t n u end over = (λ i. (sym (over (λ x. None)) i).wants)
