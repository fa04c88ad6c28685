-- The events of the settler's steps, and that no run by turns is stopped.
use Rattle.std.proofs.Common.{◌≡◌, ℕ, Bool, suc, Option, Some, None, List, [], ◌∷◌, get_or, true, false, inl, inr, refl, sym, ap, ◌∙◌, subst}
use Rattle.std.specs.Prelude.{take, slice_get}
use Rattle.std.proofs.lemmas.Bool.{cond_both, and_parts}
use Rattle.core_model.specs.CoreState.{UnitNo, GrainId, CoreState}
use Rattle.core_model.specs.declared.events.CoreEvent.{CoreEvent}
use Rattle.core_model.specs.declared.events.CoreEvent.TheVariants.{Halt}
use Rattle.core_model.specs.Changes.{swept, swept_by}
use Rattle.core_laws.proofs.EventCases.{Change, bad, begin, lock, raise, refuse, finish, end_plain, end_snapshot, release, take_batch, vote, decide_some, decide_none, seal_batch, spoil_batch, doubt_batch, learn, emit, halt_run, want, load, decode}
use Rattle.core_model.specs.Events.{applies, can, does, is_allowed, step, run}
use Rattle.core_model.specs.LegalRuns.{Run, begins, ends}
use Rattle.script_tree.specs.Programs.{ProgramTree}
use Rattle.promise_spec.specs.Cores.{state_before}
use Rattle.promise_spec.specs.UnitAnswers.{Got, got_from}
use Rattle.promise_spec.specs.UnitRule.{Basis, IsDue}
use Rattle.core_model.specs.Settler.{MakesEvent, Step, Votes, Decides, Seals, Learns, Writes, Loads, Takes, Rests, settler_step}
use Rattle.promise_spec.specs.Cores.{applied_from}
use Rattle.promise_spec.specs.TurnRule.{OfSettler, IsTurnOf, KeepsTurnRule, lock_asked, movers, mover_of, next_wish, passed, picks_used, units_of}
use Rattle.turn_rules.specs.NextEvent.{is_begin, is_own, with_event}
use Rattle.turn_rules.proofs.Growth.{ends-more}

-- ---- no stop

-- none but a stop stops the run
halt-change : (w : CoreState) (e : CoreEvent) (w' : CoreState) → Change w e w' → (e ≡ Halt → ⊥) → w'.units.halt ≡ w.units.halt
halt-change w e w' (bad line why q) n = refl
halt-change w e w' (begin origin call plain c) n = refl
halt-change w e w' (lock v g mode running free first here) n = refl
halt-change w e w' (raise v g mode running free held here uncovered) n = refl
halt-change w e w' (refuse v g mode why running q) n = refl
halt-change w e w' (finish v effect running plain of_call reads alone) n = refl
halt-change w e w' (end_plain v effect running plain of_call bare) n = refl
halt-change w e w' (end_snapshot v at outcome running plain kids answer) n = refl
halt-change w e w' (release v g over held) n = refl
halt-change w e w' (take_batch o some) n = refl
halt-change w e w' (vote m g kept b q number un planned fresh) n = refl
halt-change w e w' (decide_some m b q number un voted some) n = refl
halt-change w e w' (decide_none m b q number un voted not_one) n = refl
halt-change w e w' (seal_batch m b ds q number un) n = refl
halt-change w e w' (spoil_batch m b ds q number un) n = refl
halt-change w e w' (doubt_batch m b ds q number un) n = refl
halt-change w e w' (learn v g wrote final fresh) n = refl
halt-change w e w' (emit q) n = refl
halt-change w e w' (halt_run q) n = absurd (n refl)
halt-change w e w' (want v g running free fresh) n = refl
halt-change w e w' (load g v state gone wanted) n = refl

-- by one event
halt-step : (w : CoreState) (e : CoreEvent) → (applies w e ≡ true → e ≡ Halt → ⊥) → (step w e).units.halt ≡ w.units.halt
halt-step w e n = cond_both (applies w e) (swept (does w e)) w (λ (x : CoreState). x.units.halt ≡ w.units.halt)
    (λ a. sweep (does w e) ∙ halt-change w e (does w e) (decode w e (and_parts (is_allowed w e) (can w e) a).1) (n a))
    (λ a. refl)
  where
    sweep : (x : CoreState) → (swept x).units.halt ≡ x.units.halt
    sweep x = go x.cells.capacity
      where
        go : (c : Option ℕ) → (swept_by x c).units.halt ≡ x.units.halt
        go None = refl
        go (Some m) = refl

-- by a list of events
halt-run : (es : List CoreEvent) (w : CoreState) → ((at : ℕ) (e : CoreEvent) → slice_get es at ≡ Some e → applies (run w (take at es)) e ≡ true → e ≡ Halt → ⊥) → (run w es).units.halt ≡ w.units.halt
halt-run [] w n = refl
halt-run (e ∷ es) w n = halt-run es (step w e) (λ at f there a. n (suc at) f there a) ∙ halt-step w e (n 0 e refl)

-- no step makes a stop
no-halt-step : (s : Step) → MakesEvent s Halt → ⊥
no-halt-step (Votes n g) m = (let e = m.1 in absurd cc)
no-halt-step (Decides n) m = absurd cc
no-halt-step (Seals n) (inl m) = absurd cc
no-halt-step (Seals n) (inr (inl m)) = absurd cc
no-halt-step (Seals n) (inr (inr m)) = absurd cc
no-halt-step (Learns u g) m = absurd cc
no-halt-step Writes m = absurd cc
no-halt-step (Loads g) m = (let e = m.2 in absurd cc)
no-halt-step Takes m = absurd cc
no-halt-step Rests m = m

-- so no event of a step is one
pub settlers-go : (s : Step) (e : CoreEvent) → MakesEvent s e → e ≡ Halt → ⊥
settlers-go s e makes q = no-halt-step s (subst (MakesEvent s) q makes)

-- a run that isn't stopped goes on by an event that is no stop
pub going-by : (r : Run) (e : CoreEvent) → (e ≡ Halt → ⊥) → (ends r).units.halt ≡ false → (ends (with_event r e)).units.halt ≡ false
going-by r e other going = ap (λ (w : CoreState). w.units.halt) (ends-more r e) ∙ halt-step (ends r) e (λ a. other) ∙ going

-- no run that keeps the turn rule is stopped
pub never-halted : (types : ProgramTree) (windowed : Bool) (lines width : ℕ) (picks : List ℕ) (r : Run) → KeepsTurnRule types windowed lines width picks r → (ends r).units.halt ≡ false
never-halted types windowed lines width picks r keeps =
    halt-run r.events (begins r) (λ at e there a q.
    no-halt-step (settler_step (state_before r at)) (subst (λ (x : CoreEvent). IsTurnOf windowed lines width r (state_before r at)
    (next_wish (state_before r at) (units_of r (state_before r at)) (lock_asked types (state_before r at) (got_from (begins r) (take at r.events))) (passed (applied_from (begins r) (take at r.events))))
    (movers types r (state_before r at) (got_from (begins r) (take at r.events))) (get_or picks (picks_used r at) 0) x) q
    (keeps at e (record { there = there; applied = a }))).made)

-- the events of a settler that brings no grain into memory
pub settlers : (s : Step) (e : CoreEvent) → ((g : GrainId) → s ≡ Loads g → ⊥) → MakesEvent s e → (mover_of e ≡ OfSettler) × (is_begin e ≡ false)
settlers (Votes n g) e stays m = subst (λ (x : CoreEvent). (mover_of x ≡ OfSettler) × (is_begin x ≡ false)) (sym m.1) (refl, refl)
settlers (Decides n) e stays m = subst (λ (x : CoreEvent). (mover_of x ≡ OfSettler) × (is_begin x ≡ false)) (sym m) (refl, refl)
settlers (Seals n) e stays (inl m) = subst (λ (x : CoreEvent). (mover_of x ≡ OfSettler) × (is_begin x ≡ false)) (sym m) (refl, refl)
settlers (Seals n) e stays (inr (inl m)) = subst (λ (x : CoreEvent). (mover_of x ≡ OfSettler) × (is_begin x ≡ false)) (sym m) (refl, refl)
settlers (Seals n) e stays (inr (inr m)) = subst (λ (x : CoreEvent). (mover_of x ≡ OfSettler) × (is_begin x ≡ false)) (sym m) (refl, refl)
settlers (Learns u g) e stays m = subst (λ (x : CoreEvent). (mover_of x ≡ OfSettler) × (is_begin x ≡ false)) (sym m) (refl, refl)
settlers Writes e stays m = subst (λ (x : CoreEvent). (mover_of x ≡ OfSettler) × (is_begin x ≡ false)) (sym m) (refl, refl)
settlers (Loads g) e stays m = absurd (stays g refl)
settlers Takes e stays m = subst (λ (x : CoreEvent). (mover_of x ≡ OfSettler) × (is_begin x ≡ false)) (sym m) (refl, refl)
settlers Rests e stays m = absurd m

-- and they are due
pub settlers-due : (around : Basis) (w : CoreState) (got : UnitNo → List Got) (s : Step) (e : CoreEvent) → ((g : GrainId) → s ≡ Loads g → ⊥) → MakesEvent s e → IsDue around w got e
settlers-due around w got (Votes n g) e stays m = subst (IsDue around w got) (sym m.1) tt
settlers-due around w got (Decides n) e stays m = subst (IsDue around w got) (sym m) tt
settlers-due around w got (Seals n) e stays (inl m) = subst (IsDue around w got) (sym m) tt
settlers-due around w got (Seals n) e stays (inr (inl m)) = subst (IsDue around w got) (sym m) tt
settlers-due around w got (Seals n) e stays (inr (inr m)) = subst (IsDue around w got) (sym m) tt
settlers-due around w got (Learns u g) e stays m = subst (IsDue around w got) (sym m) tt
settlers-due around w got Writes e stays m = subst (IsDue around w got) (sym m) tt
settlers-due around w got (Loads g) e stays m = absurd (stays g refl)
settlers-due around w got Takes e stays m = subst (IsDue around w got) (sym m) tt
settlers-due around w got Rests e stays m = absurd m

-- no event of a settler is a unit's own
pub settlers-others : (u : UnitNo) (s : Step) (e : CoreEvent) → MakesEvent s e → is_own u e ≡ false
settlers-others u (Votes n g) e m = ap (is_own u) m.1
settlers-others u (Decides n) e m = ap (is_own u) m
settlers-others u (Seals n) e (inl m) = ap (is_own u) m
settlers-others u (Seals n) e (inr (inl m)) = ap (is_own u) m
settlers-others u (Seals n) e (inr (inr m)) = ap (is_own u) m
settlers-others u (Learns v g) e m = ap (is_own u) m
settlers-others u Writes e m = ap (is_own u) m
settlers-others u (Loads g) e m = ap (is_own u) m.2
settlers-others u Takes e m = ap (is_own u) m
settlers-others u Rests e m = absurd m
