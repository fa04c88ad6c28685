-- When a grain is loaded, and the state after it.
use Rattle.std.proofs.Common.{◌≡◌, ℕ, List, [], ◌∷◌, Bool, true, false, ◌&&◌, not, refl, sym, ap, ◌∙◌, subst, Option, Some, None, drop, filter, map}
use Rattle.std.specs.Prelude.{if◌then◌else◌, is_some}
use Rattle.std.proofs.lemmas.Bool.{and_parts, cond-true, cond-false, not-true}
use Rattle.core_model.specs.CoreState.{UnitNo, GrainId, Value, CoreState, put_grain}
use Rattle.core_model.specs.Changes.{loaded, touched}
use Rattle.core_model.specs.Events.{applies, can}
use Rattle.core_model.specs.Tests.{first_grain, first_of_two, is_wanted}
use Rattle.core_model.specs.declared.events.CoreEvent.TheVariants.{Load}
use Rattle.core_model.specs.declared.events.CoreReply.TheVariants as reply
use Rattle.cell_memory.specs.LeavingGrains.{evicted_by, left_by}
use Rattle.cell_memory.proofs.ChangedCells.{load-stands}
use Rattle.activations.specs.LastUsed.{LastUsed}
use Rattle.grain_cell.specs.Room.{CellInRoom}
use Rattle.cell_table.specs.Table.{cell_at, cells_kept, here_in, kept_by, left_after, opens_with, used_after, used_of}
use Rattle.cell_table.specs.declared.table.CellTable.{CellTable}
use Rattle.unit_table.specs.Table.{wants_in}
use Rattle.history_core.specs.declared.parts.Parts.{Parts}
use Rattle.history_core.specs.Evictions.{these}
use Rattle.history_core.specs.Questions.{wanted_in}
use Rattle.history_core.specs.KeptParts.{PartsStand, IsCoreReached}
use Rattle.history_core.specs.Steps.{CanDo, Changes, Does}
use Rattle.history_core.proofs.Sweeps.{does-evicting}
use Rattle.history_core.proofs.Grants.{used-short}
use Rattle.history_core.proofs.MemoryCells.{cell-away, left-is, stands-as, used-touched}
use Rattle.history_core.proofs.OneEvent.{can-is}

-- by what is kept
pub can-load-is : (p : Parts) (w : CoreState) (g : GrainId) (u : UnitNo) (state : List Value) → PartsStand p w → (not (here_in p.cells g) && is_wanted (wants_in p.units) g) ≡ can w (Load g u state)
can-load-is p w g u state s = λ i. not (sym (s.cells.here g) i) && is_wanted (sym s.units i).wants g

-- the grain isn't in memory
pub load-away : (p : Parts) (g : GrainId) (u : UnitNo) (state : List Value) → CanDo p (Load g u state) → here_in p.cells g ≡ false
load-away p g u state c = sym (c.1.cells.here g) ∙ not-true (c.0.cells.here g) (and_parts (not (c.0.cells.here g)) (is_wanted c.0.units.wants g) (can-is c.0 (Load g u state) c.3)).0

-- the grain is there, and the one that is used no more goes where it is idle
pub does-load : (p : Parts) (g : GrainId) (u : UnitNo) (state : List Value) (brought new : CellTable) (left : Option GrainId) (wants : List (UnitNo × GrainId)) → here_in p.cells g ≡ false →
    cells_kept brought ≡ put_grain (cells_kept p.cells) g (Some (record { stack = record { unit = u; state = state } ∷ []; holds = []; readings = [] })) →
    brought.recent ≡ used_after g p.cells.recent → opens_with brought ≡ opens_with p.cells → left ≡ left_after g p.cells.recent → wants ≡ wants_in p.units →
    cells_kept new ≡ evicted_by (opens_with brought).limit wants (used_of brought.recent) (these left) (cells_kept brought) → new.recent ≡ brought.recent → opens_with new ≡ opens_with brought →
    Does p (Load g u state) reply.Done (record p { cells = new })
does-load p g u state brought new left wants away is used opens left_is waits kept recent begun =
    does-evicting p (record p { cells = brought }) (Load g u state) reply.Done new wants (these left) (λ w s r a. (
      record {
        units = s.units;
        numbers = s.numbers;
        cells = stands-as (opens_with p.cells).limit (opens_with brought).limit (put_grain (cells_kept p.cells) g (Some (record { stack = record { unit = u; state = state } ∷ []; holds = []; readings = [] }))) (cells_kept brought)
            (touched (opens_with p.cells).limit g (used_of p.cells.recent)) (used_of brought.recent) (loaded w g u state).cells (λ i. (opens i).limit) is (ap used_of used ∙ used-touched g p.cells.recent)
            (load-stands (opens_with p.cells).limit (cells_kept p.cells) (used_of p.cells.recent) w s.cells g u state (cell-away p.cells g away));
        verdict = s.verdict;
        result = s.result;
        effects = s.effects;
        sources = s.sources;
        batch = s.batch;
        batches = s.batches;
        doubt = s.doubt;
        settled = s.settled;
        emitted = s.emitted;
        learn = s.learn;
        handed = s.handed;
        last = s.last;
        room = record { entries = s.room.entries; learn = s.room.learn; places = s.room.places };
      },
      refl,
    )) waits (λ w s r a. (λ i. left_by (s.cells.capacity i) g (s.cells.used i)) ∙ left-is g p.cells.recent (used-short p w s r) ∙ ap these (sym left_is)) kept recent begun

-- the first wanted grain, from the last wait to the first
pub wait-away : (p : Parts) (t : UnitNo × GrainId) (ts : List (UnitNo × GrainId)) → here_in p.cells t.1 ≡ false →
    first_grain (filter (λ (g : GrainId). not (here_in p.cells g)) (map (λ (x : UnitNo × GrainId). x.1) (t ∷ ts))) ≡ first_of_two t.1 (first_grain (filter (λ (g : GrainId). not (here_in p.cells g)) (map (λ (x : UnitNo × GrainId). x.1) ts)))
wait-away p t ts away = ap first_grain (cond-true (not (here_in p.cells t.1)) (t.1 ∷ filter (λ (g : GrainId). not (here_in p.cells g)) (map (λ (x : UnitNo × GrainId). x.1) ts)) (filter (λ (g : GrainId). not (here_in p.cells g)) (map (λ (x : UnitNo × GrainId). x.1) ts)) (ap not away))

pub wait-here : (p : Parts) (t : UnitNo × GrainId) (ts : List (UnitNo × GrainId)) → here_in p.cells t.1 ≡ true →
    first_grain (filter (λ (g : GrainId). not (here_in p.cells g)) (map (λ (x : UnitNo × GrainId). x.1) (t ∷ ts))) ≡ first_grain (filter (λ (g : GrainId). not (here_in p.cells g)) (map (λ (x : UnitNo × GrainId). x.1) ts))
wait-here p t ts here = ap first_grain (cond-false (not (here_in p.cells t.1)) (t.1 ∷ filter (λ (g : GrainId). not (here_in p.cells g)) (map (λ (x : UnitNo × GrainId). x.1) ts)) (filter (λ (g : GrainId). not (here_in p.cells g)) (map (λ (x : UnitNo × GrainId). x.1) ts)) (ap not here))

-- where memory has no limit each grain is in it, so none is wanted
here-always : (p : Parts) (g : GrainId) → is_some p.cells.recent ≡ false → here_in p.cells g ≡ true
here-always p g e = go (cell_at p.cells g) p.cells.recent e
  where
    go : (o : Option CellInRoom) (r : Option LastUsed) → is_some r ≡ false → is_some (kept_by o r ((opens_with p.cells).states g)) ≡ true
    go (Some c) r e = refl
    go None None e = refl
    go None (Some used) e = cc

pub none-wanted : (p : Parts) → is_some p.cells.recent ≡ false → wanted_in p ≡ None
none-wanted p e = go (wants_in p.units)
  where
    go : (ts : List (UnitNo × GrainId)) → first_grain (filter (λ (g : GrainId). not (here_in p.cells g)) (map (λ (x : UnitNo × GrainId). x.1) ts)) ≡ None
    go [] = refl
    go (t ∷ ts) = wait-here p t ts (here-always p t.1 e) ∙ go ts
