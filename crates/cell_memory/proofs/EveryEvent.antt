-- After every list of events the touched grains are all that may leave.
use Rattle.std.proofs.Common.{◌≡◌, ◌<◌, ℕ, List, [], ◌∷◌, true, refl, sym, ◌∙◌, subst, Option, Some, None}
use Rattle.std.proofs.lemmas.Bool.{and_parts, cond-true}
use Rattle.core_model.specs.CoreState.{GrainId, CoreState}
use Rattle.core_model.specs.Changes.{swept, swept_by}
use Rattle.core_model.specs.Events.{applies, can, does, step, is_allowed}
use Rattle.core_model.specs.declared.events.CoreEvent.{CoreEvent}
use Rattle.core_model.specs.Laws.{extended}
use Rattle.core_model.specs.LegalRuns.{Run, begins, ends}
use Rattle.core_laws.proofs.EventCases.{Change, bad, begin, lock, raise, refuse, finish, end_plain, end_snapshot, release, take_batch, vote, decide_some, decide_none, seal_batch, spoil_batch, doubt_batch, learn, emit, halt_run, want, load, decode}
use Rattle.core_laws.proofs.FurtherLaws.{run-append}
use Rattle.core_laws.proofs.LoadlessLaws.{holds-ends}
use Rattle.core_laws.proofs.Memory.{bounded-ends}
use Rattle.cell_memory.specs.KeptCells.{CellsKept, StandsForCells}
use Rattle.cell_memory.specs.LeavingGrains.{touches, evicted_by}
use Rattle.cell_memory.proofs.Evictions.{ReadersHold, sweeps}
use Rattle.cell_memory.proofs.TouchedGrains.{covered}

-- no event changes how many grains are kept
pub same-limit : (w : CoreState) (e : CoreEvent) (w' : CoreState) → Change w e w' → w'.cells.capacity ≡ w.cells.capacity
same-limit w e w' (bad line why q) = refl
same-limit w e w' (begin origin call plain c) = refl
same-limit w e w' (lock u g mode running free first here) = refl
same-limit w e w' (raise u g mode running free held here uncovered) = refl
same-limit w e w' (refuse u g mode why running q) = refl
same-limit w e w' (finish u effect running plain of_call reads alone) = refl
same-limit w e w' (end_plain u effect running plain of_call bare) = refl
same-limit w e w' (end_snapshot u at outcome running plain kids answer) = refl
same-limit w e w' (release u g over held) = refl
same-limit w e w' (take_batch none some) = refl
same-limit w e w' (vote n g kept b q number d planned fresh) = refl
same-limit w e w' (decide_some n b q number d voted some) = refl
same-limit w e w' (decide_none n b q number d voted none) = refl
same-limit w e w' (seal_batch n b ds q number d) = refl
same-limit w e w' (spoil_batch n b ds q number d) = refl
same-limit w e w' (doubt_batch n b ds q number d) = refl
same-limit w e w' (learn u g wrote final fresh) = refl
same-limit w e w' (emit q) = refl
same-limit w e w' (halt_run q) = refl
same-limit w e w' (want u g running free fresh) = refl
same-limit w e w' (load g u state gone wanted) = refl

-- who read holds, before the sweep too
unswept : (v : CoreState) → ReadersHold (swept v).cells → ReadersHold v.cells
unswept v = go v.cells.capacity
  where
    go : (c : Option ℕ) → ReadersHold (swept_by v c).cells → ReadersHold v.cells
    go None h = h
    go (Some n) h = h

readers-ends : (r : Run) → 0 < r.base → ReadersHold (ends r).cells
readers-ends r above g s m = (let t = (holds-ends r above).read.lock g s m in (t.0, t.1))

pub local : (r : Run) (e : CoreEvent) (limit : Option ℕ) (cell : CellsKept) (recent : List GrainId) → 0 < r.base → applies (ends r) e ≡ true →
    StandsForCells limit cell recent (does (ends r) e).cells → StandsForCells limit (evicted_by limit (does (ends r) e).units.wants recent (touches (ends r) e) cell) recent (step (ends r) e).cells
local r e limit cell recent above a s = subst (λ (v : CoreState). StandsForCells limit (evicted_by limit (does (ends r) e).units.wants recent (touches (ends r) e) cell) recent v.cells) (sym stepped) (by_limit limit s)
  where
    change : Change (ends r) e (does (ends r) e)
    change = decode (ends r) e (and_parts (is_allowed (ends r) e) (can (ends r) e) a).1

    stepped : step (ends r) e ≡ swept (does (ends r) e)
    stepped = cond-true (applies (ends r) e) (swept (does (ends r) e)) (ends r) a

    readers : ReadersHold (does (ends r) e).cells
    readers = unswept (does (ends r) e) (subst (λ (v : CoreState). ReadersHold v.cells) (run-append (begins r) r.events (e ∷ []) ∙ stepped) (readers-ends (extended r (e ∷ [])) above))

    by_limit : (l : Option ℕ) → StandsForCells l cell recent (does (ends r) e).cells → StandsForCells l (evicted_by l (does (ends r) e).units.wants recent (touches (ends r) e) cell) recent (swept (does (ends r) e)).cells
    by_limit None t = subst (λ (c : Option ℕ). StandsForCells None cell recent (swept_by (does (ends r) e) c).cells) (sym t.capacity) t
    by_limit (Some n) t =
        sweeps n cell recent (touches (ends r) e) (does (ends r) e) readers
        (covered n (ends r) (sym (same-limit (ends r) e (does (ends r) e) change) ∙ t.capacity) (bounded-ends r above).used e (does (ends r) e) change) t
