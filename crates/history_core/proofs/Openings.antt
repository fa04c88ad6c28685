-- What is kept before any event.
use Rattle.std.proofs.Common.{◌≡◌, ℕ, ◌≤◌, ◌^◌, List, [], ◌∷◌, Bool, true, false, refl, sym, ap, ◌∙◌, arith, Option, Some, None, is_none, is_some, length, map, take, subst}
use Rattle.base_types.specs.declared.calls.Outcome.TheVariants.{Aborted as aborted}
use Rattle.cell_model.specs.Cells.{Cell, opened}
use Rattle.core_model.specs.CoreState.{UnitNo, GrainId, Value, Outcome}
use Rattle.core_model.specs.declared.phases.Verdict.{Verdict}
use Rattle.core_model.specs.declared.phases.Verdict.TheVariants.{Open}
use Rattle.core_model.specs.Events.{start, first_cells, first_units}
use Rattle.core_parts.specs.States.{last_in, has_place}
use Rattle.activations.specs.LastUsed.{LastUsed}
use Rattle.cell_memory.specs.KeptCells.{IsCell, StandsForCells}
use Rattle.cell_table.specs.Table.{cells_kept, kept_by, limit_of, opens_with, used_of}
use Rattle.cell_table.specs.declared.table.CellTable.{CellTable}
use Rattle.unit_table.specs.Table.{units_of, verdict_in, result_in}
use Rattle.open_batch.specs.Members.{effect_in, sources_in}
use Rattle.history_core.proofs.MemoryCells.{stands-as}
use Rattle.history_core.proofs.OpenBatches.{to-cases, from-cases, each-placed, placed-each}
use Rattle.history_core.specs.declared.parts.Parts.{Parts}
use Rattle.history_core.specs.KeptParts.{PartsStand, ShowsOpen, ShowsTakenBatch, owed_in, writes_in, AllPlaced, EachPlaced}

-- the cells of the first state: memory has a limit and no grain is in it, or each one is
first-stand : (t : CellTable) → cells_kept t ≡ (λ (g : GrainId). kept_by None t.recent ((opens_with t).states g)) → used_of t.recent ≡ [] →
    StandsForCells (opens_with t).limit (cells_kept t) (used_of t.recent) (first_cells (opens_with t).limit (opens_with t).states)
first-stand t kept unused =
    stands-as (limit_of t.recent) (opens_with t).limit (λ (g : GrainId). kept_by None t.recent ((opens_with t).states g)) (cells_kept t) [] (used_of t.recent) (first_cells (limit_of t.recent) (opens_with t).states) refl kept unused
    (record {
      capacity = refl;
      used = refl;
      here = λ g. here t.recent ((opens_with t).states g);
      there = λ g x e. there g t.recent x e;
      away = λ g e. (refl, refl);
    })
  where
    here : (r : Option LastUsed) (state : List Value) → is_none (limit_of r) ≡ is_some (kept_by None r state)
    here None state = refl
    here (Some used) state = refl

    there : (g : GrainId) (r : Option LastUsed) (x : Cell) → kept_by None r ((opens_with t).states g) ≡ Some x → IsCell (first_cells (limit_of r) (opens_with t).states) g x
    there g None x e = (let same : opened ((opens_with t).states g) ≡ x = cc in subst (IsCell (first_cells None (opens_with t).states) g) same (record { stack = refl; holds = refl; readings = refl }))
    there g (Some used) x e = cc

pub stands-new : (p : Parts) (base kinds : ℕ) → units_of p.units (λ u. None) ≡ first_units base kinds → ◌≡◌ {A = UnitNo → Verdict} (verdict_in p.units) (λ u. Open) → ◌≡◌ {A = UnitNo → Outcome} (result_in p.units) (λ u. aborted) →
    cells_kept p.cells ≡ (λ (g : GrainId). kept_by None p.cells.recent ((opens_with p.cells).states g)) → used_of p.cells.recent ≡ [] → p.waiting.items ≡ [] → p.batches ≡ 0 → p.batch ≡ None → p.doubt ≡ false → p.entries.entries ≡ [] → p.entries.emitted ≡ 0 → p.learn.pairs ≡ [] →
    ((g : GrainId) → last_in p.last g ≡ None) → base ≤ 2 ^ 63 → PartsStand p (start base kinds (opens_with p.cells).limit (opens_with p.cells).states)
stands-new p base kinds units verdict result cells unused waits batches batch doubt entries emitted pairs last few = record {
  units = sym units;
  numbers = few;
  cells = first-stand p.cells cells unused;
  verdict = sym verdict;
  result = sym result;
  effects = ap (map effect_in) waits;
  sources = ap (map sources_in) waits;
  batch = from-cases p.batch p.waiting.items None (subst (λ o. ShowsOpen o p.waiting.items None) (sym batch) tt);
  batches = sym batches;
  doubt = sym doubt;
  settled = sym entries;
  emitted = sym emitted;
  learn = pairs;
  handed = λ u g f h. cc;
  last = last;
  room = record {
    entries = subst (λ o. owed_in o ≤ p.entries.spare) (sym batch) (omega arith);
    learn = subst (λ o. writes_in (take (owed_in o) p.waiting.items) ≤ p.learn.spare) (sym batch) (omega arith);
    places = subst (λ o. EachPlaced (has_place p.last) (take (owed_in o) p.waiting.items)) (sym batch) (λ m i x j. absurd i);
  };
}
