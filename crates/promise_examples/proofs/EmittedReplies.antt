-- On one thread no batch is taken while a reply isn't written.
use Rattle.std.proofs.Common.{◌≡◌, ℕ, zero, suc, ◌<◌, ◌≤◌, Bool, true, false, List, [], ◌∷◌, length, take, Option, Some, None, is_some, is_none, nat_lt, refl, subst, arith}
use Rattle.std.specs.Prelude.{if◌then◌else◌}
use Rattle.std.proofs.lemmas.Bool.{and_parts, lt-ltb}
use Rattle.core_model.specs.declared.events.CoreEvent.{CoreEvent}
use Rattle.core_model.specs.declared.events.CoreEvent.TheVariants.{Take}
use Rattle.core_model.specs.Events.{applies, is_allowed, can, does, step, run}
use Rattle.core_model.specs.Changes.{swept, swept_by}
use Rattle.core_model.specs.Answers.{next_learn}
use Rattle.core_model.specs.LegalRuns.{Run, begins, ends}
use Rattle.core_model.specs.CoreState.{UnitNo, GrainId, Batch, CoreState}
use Rattle.core_laws.proofs.EventCases.{Change, bad, begin, lock, raise, refuse, finish, end_plain, end_snapshot, release, take_batch, vote, decide_some, decide_none, seal_batch, spoil_batch, doubt_batch, learn, emit, halt_run, want, load, decode}
use Rattle.script_tree.specs.Programs.{ProgramTree}
use Rattle.promise_spec.specs.Cores.{AppliesAt, state_before}
use Rattle.promise_spec.specs.TurnRule.{KeepsTurnRule, MakesEvent, batch_step, later_step}

never_fewer : (w w' : CoreState) (e : CoreEvent) → Change w e w' → w.manager.emitted ≤ w'.manager.emitted
never_fewer w _ _ (bad line why is) = omega arith
never_fewer w _ _ (begin origin call plain is) = omega arith
never_fewer w _ _ (lock u g mode p q r s) = omega arith
never_fewer w _ _ (raise u g mode p q r s t) = omega arith
never_fewer w _ _ (refuse u g mode why p q) = omega arith
never_fewer w _ _ (finish u effect p q r s t) = omega arith
never_fewer w _ _ (end_plain u effect p q r s) = omega arith
never_fewer w _ _ (end_snapshot u at outcome p q r s) = omega arith
never_fewer w _ _ (release u g p q) = omega arith
never_fewer w _ _ (take_batch p q) = omega arith
never_fewer w _ _ (vote n g kept b p q r s t) = omega arith
never_fewer w _ _ (decide_some n b p q r s t) = omega arith
never_fewer w _ _ (decide_none n b p q r s t) = omega arith
never_fewer w _ _ (seal_batch n b ds p q r) = omega arith
never_fewer w _ _ (spoil_batch n b ds p q r) = omega arith
never_fewer w _ _ (doubt_batch n b ds p q r) = omega arith
never_fewer w _ _ (learn u g p q r) = omega arith
never_fewer w _ _ (emit p) = omega arith
never_fewer w _ _ (halt_run p) = omega arith
never_fewer w _ _ (want u g p q r) = omega arith
never_fewer w _ _ (load g u state p q) = omega arith

swept_same : (w : CoreState) (capacity : Option ℕ) → (swept_by w capacity).manager.emitted ≡ w.manager.emitted
swept_same w None = refl
swept_same w (Some n) = refl

step_fewer : (w : CoreState) (e : CoreEvent) → w.manager.emitted ≤ (step w e).manager.emitted
step_fewer w e = by_test (applies w e) refl where
  by_test : (b : Bool) → applies w e ≡ b → w.manager.emitted ≤ (if b then swept (does w e) else w).manager.emitted
  by_test true is =
      let more : w.manager.emitted ≤ (does w e).manager.emitted = never_fewer w (does w e) e (decode w e (and_parts (is_allowed w e) (can w e) is).1) in
      let same : (swept (does w e)).manager.emitted ≡ (does w e).manager.emitted = swept_same (does w e) (does w e).cells.capacity in
      omega arith
  by_test false is = omega arith

run_fewer : (w : CoreState) (events : List CoreEvent) → w.manager.emitted ≤ (run w events).manager.emitted
run_fewer w [] = omega arith
run_fewer w (e ∷ events) =
    let one : w.manager.emitted ≤ (step w e).manager.emitted = step_fewer w e in
    let more : (step w e).manager.emitted ≤ (run (step w e) events).manager.emitted = run_fewer (step w e) events in
    omega arith

front_fewer : (w : CoreState) (at : ℕ) (events : List CoreEvent) → (run w (take at events)).manager.emitted ≤ (run w events).manager.emitted
front_fewer w zero events = run_fewer w events
front_fewer w (suc at) [] = omega arith
front_fewer w (suc at) (e ∷ events) = front_fewer (step w e) at events

-- what the core is told to be written is never fewer than before
pub emitted_before : (r : Run) (at : ℕ) → (state_before r at).manager.emitted ≤ (ends r).manager.emitted
emitted_before r at = front_fewer (begins r) at r.events

module _ (w : CoreState) (unwritten : w.manager.emitted < length w.manager.settled) where
  less : nat_lt w.manager.emitted (length w.manager.settled) ≡ true
  less = lt-ltb w.manager.emitted (length w.manager.settled) unwritten

  by_learn : (next : Option (UnitNo × GrainId)) → next_learn w ≡ next → is_some w.manager.doubt ≡ false → MakesEvent (later_step w) Take → ⊥
  by_learn None q d = rw (d, q, less) (λ e. absurd (cc e))
  by_learn (Some x) q d = rw (d, q) (λ e. absurd (cc e))

  by_doubt : (b : Bool) → is_some w.manager.doubt ≡ b → MakesEvent (later_step w) Take → ⊥
  by_doubt true d = rw (d, less) (λ e. absurd (cc e))
  by_doubt false d = by_learn (next_learn w) refl d

  not_taken : MakesEvent (later_step w) Take → ⊥
  not_taken = by_doubt (is_some w.manager.doubt) refl

no_batch : (o : Option Batch) → is_none o ≡ true → o ≡ None
no_batch None e = refl
no_batch (Some x) e = cc

-- a batch is taken only where all that is settled is written
pub nothing_unwritten : (types : ProgramTree) (windowed : Bool) (lines width : ℕ) (picks : List ℕ) (r : Run) (at : ℕ) → KeepsTurnRule types windowed lines width picks r → AppliesAt r at Take → (state_before r at).manager.emitted < length (state_before r at).manager.settled → ⊥
nothing_unwritten types windowed lines width picks r at keeps is unwritten =
    let w = state_before r at in
    let turn = keeps at Take is in
    let able = and_parts (is_allowed w Take) (can w Take) is.applied in
    let none : w.manager.batch ≡ None = no_batch w.manager.batch (and_parts _ _ able.1).0 in
    not_taken w unwritten (subst (λ (b : Option Batch). MakesEvent (batch_step w b) Take) none turn.made)
