-- Where nobody else puts events, a step says that it moved exactly where the unit can move by the turn rule.
use Rattle.std.proofs.Common.{◌≡◌, inl, inr, ℕ, length, List, Bool, true, false, true≢false, refl, sym, ap, ◌∙◌, subst, Option, Some, None, ◌<◌}
use Rattle.std.specs.Prelude.{if◌then◌else◌, not, is_some, ◌&&◌, option_map}
use Rattle.std.proofs.lemmas.Bool.{and_parts, cases_Bool}
use Rattle.base_types.specs.declared.calls.Mode.{Mode}
use Rattle.base_types.specs.declared.calls.Mode.TheVariants.{Update}
use Rattle.base_types.specs.declared.calls.Origin.TheVariants.{Line, Child}
use Rattle.cell_model.specs.Locks.{holds_lock, is_hold_of}
use Rattle.cell_model.proofs.Units.{any-true, same_unit-true}
use Rattle.core_model.specs.CoreState.{UnitNo, GrainId, CoreState}
use Rattle.core_model.specs.declared.events.CoreEvent.{CoreEvent}
use Rattle.core_model.specs.declared.events.CoreEvent.TheVariants.{Bad, Begin, Grant, Refuse, Finish, EndPlain, EndSnapshot, Release, Take, Vote, Decide, Sealed, NotSealed, Doubt, Learn, Emitted, Halt, Want as WantGrain, Load}
use Rattle.core_model.specs.declared.events.CoreReply.{CoreReply}
use Rattle.core_model.specs.declared.questions.AskAnswer.{AskAnswer}
use Rattle.core_model.specs.declared.questions.AskAnswer.TheVariants as answer
use Rattle.core_model.specs.LockAnswers.{IsGoing}
use Rattle.core_model.specs.Changes.{refusal}
use Rattle.core_model.specs.Events.{applies, can, is_allowed, is_free_answer}
use Rattle.core_model.specs.Tests.{ask_answer, is_free, is_over, is_running}
use Rattle.core_model.specs.LegalRuns.{Run, ends}
use Rattle.core_laws.proofs.BatchPrefix.{free-holds}
use Rattle.script_tree.specs.Programs.{ProgramTree}
use Rattle.script_meaning.specs.Play.{Want, WantLock, WantRaise, WantUnit, Over}
use Rattle.promise_spec.specs.UnitAnswers.{Got, got_in, wanted_by, wanted_lock}
use Rattle.promise_spec.specs.TurnRule.{OfUnit, can_move, is_unhindered, is_wait, mover_of}
use Rattle.promise_spec.specs.UnitRule.{Basis, IsDue}
use Rattle.promise_spec.proofs.Lists.{some_is}
use Rattle.worker_rules.specs.UnitOwnership.{leaves_unit}
use Rattle.core_access.specs.OneHolder.{none_comes}
use Rattle.core_access.specs.Sights.{Sight, run_seen, saw, IsAlone, IfAlone}
use Rattle.core_access.proofs.Sights.{looks-alone}
use Rattle.txn_agent.specs.declared.agent.Advanced.{Advanced}
use Rattle.txn_agent.specs.declared.agent.Advanced.TheVariants.{Moved, Granted, Began, Waits, WaitsLoad, WaitsFor, Ended}
use Rattle.txn_agent.specs.AgentStep.{AnswerSays, HasNoEventLeft, IsDueFor, Puts, WaitsBehind, WaitsForChild, WaitsForLoad, is_move}
use Rattle.txn_agent.proofs.UnitEnds.{idle-asks}
use Rattle.txn_agent.proofs.ShownMoves.{given-none, over-moves, running-moves}
use Rattle.txn_agent.proofs.LoneSteps.{missed-not, puts-applied}
use Rattle.txn_agent.proofs.StepPromises.{line-not, load-not, settler-not, unit-is, want-not}
use Rattle.core_laws.proofs.LoadlessKept.{loadless-ends}

-- the grain and the mode that are asked for
pair-is : (x y : GrainId × Mode) → Some x ≡ Some y → (x.0 ≡ y.0) × (x.1 ≡ y.1)
pair-is x y e = (let q = some_is x y e in (ap (λ (z : GrainId × Mode). z.0) q, ap (λ (z : GrainId × Mode). z.1) q))

-- a unit that asks for a lock moves unless it must wait
lock-moves : (w : CoreState) (u : UnitNo) (o : Option Want) (g : GrainId) (mode : Mode) → wanted_lock o ≡ Some (g, mode) → is_unhindered w u o ≡ not (is_wait (ask_answer w u g mode))
lock-moves w u None g mode e = absurd cc
lock-moves w u (Some (WantLock h m)) g mode e = (let q = pair-is (h, m) (g, mode) e in λ i. not (is_wait (ask_answer w u (q.0 i) (q.1 i))))
lock-moves w u (Some (WantRaise h)) g mode e = (let q = pair-is (h, Update) (g, mode) e in λ i. not (is_wait (ask_answer w u (q.0 i) (q.1 i))))
lock-moves w u (Some (WantUnit call depth)) g mode e = absurd cc
lock-moves w u (Some (Over outcome)) g mode e = absurd cc

-- who is answered otherwise than that it isn't active, runs
asks-running : (w : CoreState) (u : UnitNo) (g : GrainId) (mode : Mode) → (ask_answer w u g mode ≡ answer.NotActive → ⊥) → is_running (w.units.phase u) ≡ true
asks-running w u g mode n = elim (cases_Bool (is_running (w.units.phase u))) [ inl e ↦ e | inr e ↦ absurd (n (idle-asks w u g mode e)) ]

-- a free lock is nothing to wait for, nor is one that must be refused
free-waits : (a : AskAnswer) → is_free_answer a ≡ true → (is_wait a ≡ false) × (a ≡ answer.NotActive → ⊥)
free-waits answer.Free e = (refl, λ q. absurd cc)
free-waits answer.NotActive e = absurd (true≢false (sym e))
free-waits (answer.Doomed source) e = absurd (true≢false (sym e))
free-waits answer.Held e = absurd (true≢false (sym e))
free-waits (answer.MustDie holder) e = absurd (true≢false (sym e))
free-waits (answer.MustWait holder) e = absurd (true≢false (sym e))
free-waits answer.Absent e = absurd (true≢false (sym e))

barred-waits : (g : GrainId) (a : AskAnswer) → is_some (refusal g a) ≡ true → (is_wait a ≡ false) × (a ≡ answer.NotActive → ⊥)
barred-waits g (answer.Doomed source) e = (refl, λ q. absurd cc)
barred-waits g (answer.MustDie holder) e = (refl, λ q. absurd cc)
barred-waits g answer.Free e = absurd (true≢false (sym e))
barred-waits g answer.NotActive e = absurd (true≢false (sym e))
barred-waits g answer.Held e = absurd (true≢false (sym e))
barred-waits g (answer.MustWait holder) e = absurd (true≢false (sym e))
barred-waits g answer.Absent e = absurd (true≢false (sym e))

-- by the turn rule
moves-by : (types : ProgramTree) (w : CoreState) (got : UnitNo → List Got) (u : UnitNo) → is_running (w.units.phase u) ≡ true → can_move types w got u ≡ is_unhindered w u (wanted_by types w u (got u))
moves-by types w got u e = ap (λ (b : Bool). if b then is_unhindered w u (wanted_by types w u (got u)) else is_over (w.units.phase u) && not (is_free w u)) e

-- what is due and applies, moves
module _ (b : Basis) (r : Run) (above : 0 < r.base) where
  lock-due : (v : UnitNo) (g : GrainId) (mode : Mode) → wanted_lock (wanted_by b.types (ends r) v (got_in r v)) ≡ Some (g, mode) → (is_wait (ask_answer (ends r) v g mode) ≡ false) × (ask_answer (ends r) v g mode ≡ answer.NotActive → ⊥) → can_move b.types (ends r) (got_in r) v ≡ true
  lock-due v g mode due free =
      moves-by b.types (ends r) (got_in r) v (asks-running (ends r) v g mode free.1)
      ∙ lock-moves (ends r) v (wanted_by b.types (ends r) v (got_in r v)) g mode due ∙ ap not free.0

  release-due : (v : UnitNo) (g : GrainId) → is_over ((ends r).units.phase v) ≡ true → holds_lock v ((ends r).cells.holds g) ≡ true → can_move b.types (ends r) (got_in r) v ≡ true
  release-due v g over held = over-moves ((ends r).units.phase v) _ (is_free (ends r) v) over ∙ ap not unfree
    where
      unfree : is_free (ends r) v ≡ false
      unfree = elim (cases_Bool (is_free (ends r) v)) [
        | inl e ↦ (let t = any-true (is_hold_of v) ((ends r).cells.holds g) held in absurd (free-holds _ (ends r) (loadless-ends r above).0 v e g t.0 t.1 (same_unit-true t.0.unit v t.2)))
        | inr e ↦ e
      ]

  at-own : (u v : UnitNo) → OfUnit v ≡ OfUnit u → can_move b.types (ends r) (got_in r) v ≡ true → can_move b.types (ends r) (got_in r) u ≡ true
  at-own u v q m = subst (λ (x : UnitNo). can_move b.types (ends r) (got_in r) x ≡ true) (unit-is v u q) m

  asks-due : (v : UnitNo) (w : Want) → is_running ((ends r).units.phase v) ≡ true → wanted_by b.types (ends r) v (got_in r v) ≡ Some w → is_unhindered (ends r) v (Some w) ≡ true → can_move b.types (ends r) (got_in r) v ≡ true
  asks-due v w runs due free = moves-by b.types (ends r) (got_in r) v runs ∙ ap (is_unhindered (ends r) v) due ∙ free

  due-moves : (u : UnitNo) (e : CoreEvent) → mover_of e ≡ OfUnit u → can (ends r) e ≡ true → IsDue b (ends r) (got_in r) e → can_move b.types (ends r) (got_in r) u ≡ true
  due-moves u (Bad n why) q a due = line-not u q
  due-moves u (Begin (Line n) call plain) q a due = line-not u q
  due-moves u (Begin (Child p i d) call plain) q a due = at-own u p q (asks-due p (WantUnit call d) (and_parts (is_running ((ends r).units.phase p)) _ a).0 due.0 refl)
  due-moves u (Grant v g mode) q a due = at-own u v q (lock-due v g mode due (free-waits (ask_answer (ends r) v g mode) a))
  due-moves u (Refuse v g mode) q a due = at-own u v q (lock-due v g mode due (barred-waits g (ask_answer (ends r) v g mode) a))
  due-moves u (Finish v x) q a due = at-own u v q (asks-due v (Over x.result) (and_parts (is_running ((ends r).units.phase v)) _ (and_parts _ _ a).0).0 due.0 refl)
  due-moves u (EndPlain v x) q a due = at-own u v q (asks-due v (Over x.result) (and_parts (is_running ((ends r).units.phase v)) _ (and_parts _ _ a).0).0 due.0 refl)
  due-moves u (EndSnapshot v at outcome) q a due = absurd due
  due-moves u (Release v g) q a due = (let p = and_parts (is_over ((ends r).units.phase v)) (holds_lock v ((ends r).cells.holds g)) a in at-own u v q (release-due v g p.0 p.1))
  due-moves u Take q a due = settler-not u q
  due-moves u (Vote n g kept) q a due = settler-not u q
  due-moves u (Decide n) q a due = settler-not u q
  due-moves u (Sealed n) q a due = settler-not u q
  due-moves u (NotSealed n) q a due = settler-not u q
  due-moves u (Doubt n) q a due = settler-not u q
  due-moves u (Learn v g) q a due = settler-not u q
  due-moves u Emitted q a due = settler-not u q
  due-moves u Halt q a due = settler-not u q
  due-moves u (WantGrain v g) q a due = want-not v u q
  due-moves u (Load g v state) q a due = load-not u q

-- ---- by what each answer says

module _ (b : Basis) (u : UnitNo) (s t : Sight) (alone : IsAlone (leaves_unit u) s) (above : 0 < (run_seen s).base) where
  -- an event that was put and applies
  puts-moves : (e : CoreEvent) (y : CoreReply) → Puts none_comes b.types u s e y t → applies (ends (run_seen s)) e ≡ true → true ≡ can_move b.types (ends (run_seen s)) (got_in (run_seen s)) u
  puts-moves e y p a =
      let same : saw s p.told.rest ≡ s = looks-alone s (saw s p.told.rest) (record { rest = p.told.rest; others = p.told.others; sight = refl }) in
      sym (due-moves b (run_seen s) above u e p.own (and_parts (is_allowed (ends (run_seen s)) e) (can (ends (run_seen s)) e) a).1
      (subst (λ (x : Sight). IfAlone (leaves_unit u) x (λ z. IsDueFor b.types z e)) same p.due alone b refl a))

  -- the answer to a lock that is asked for is that the unit must wait
  asked-waits : (g : GrainId) (mode : Mode) (a : AskAnswer) → is_wait a ≡ true → (a ≡ answer.NotActive → ⊥) → ask_answer (ends (run_seen s)) u g mode ≡ a
      → wanted_lock (wanted_by b.types (ends (run_seen s)) u (got_in (run_seen s) u)) ≡ Some (g, mode) → false ≡ can_move b.types (ends (run_seen s)) (got_in (run_seen s)) u
  asked-waits g mode a waits active asked wants =
      sym (moves-by b.types (ends (run_seen s)) (got_in (run_seen s)) u (asks-running (ends (run_seen s)) u g mode (λ q. active (sym asked ∙ q)))
      ∙ lock-moves (ends (run_seen s)) u (wanted_by b.types (ends (run_seen s)) u (got_in (run_seen s) u)) g mode wants ∙ ap not (ap is_wait asked ∙ waits))

  -- for another unit
  waits-moves : (holder : UnitNo) → WaitsBehind none_comes b.types u s holder t → false ≡ can_move b.types (ends (run_seen s)) (got_in (run_seen s)) u
  waits-moves holder h =
      let same : t ≡ s = looks-alone s t h.looked in
      asked-waits h.grain h.mode (answer.MustWait holder) refl (λ q. absurd cc)
      (subst (λ (x : Sight). ask_answer (ends (run_seen x)) u h.grain h.mode ≡ answer.MustWait holder) same h.asked)
      (subst (λ (x : Sight). IfAlone (leaves_unit u) x (λ r. wanted_lock (wanted_by b.types (ends r) u (got_in r u)) ≡ Some (h.grain, h.mode))) same h.wants alone)

  -- for the grain
  load-moves : (grain : GrainId) → WaitsForLoad none_comes b.types u s grain t → false ≡ can_move b.types (ends (run_seen s)) (got_in (run_seen s)) u
  load-moves grain h =
      let same : t ≡ s = looks-alone s t h.looked in
      asked-waits grain h.mode answer.Absent refl (λ q. absurd cc)
      (subst (λ (x : Sight). ask_answer (ends (run_seen x)) u grain h.mode ≡ answer.Absent) same h.asked)
      (subst (λ (x : Sight). IfAlone (leaves_unit u) x (λ r. wanted_lock (wanted_by b.types (ends r) u (got_in r u)) ≡ Some (grain, h.mode))) same h.wants alone)

  -- the child isn't decided
  child-moves : (child : UnitNo) → WaitsForChild none_comes b.types u s child t → false ≡ can_move b.types (ends (run_seen s)) (got_in (run_seen s)) u
  child-moves child h =
      let same : t ≡ s = looks-alone s t h.looked in
      let l = h.last (subst (IsAlone (leaves_unit u)) (sym same) alone) in
      let a = l.1.1.1 in
      subst (λ (x : Sight). false ≡ can_move b.types (ends (run_seen x)) (got_in (run_seen x)) u) same
      (sym (running-moves b.types (run_seen t) u a.running
      ∙ ap (is_unhindered (ends (run_seen t)) u) (ap (wanted_by b.types (ends (run_seen t)) u) a.got ∙ ap (option_map _) (given-none (ends (run_seen t)) l.0 l.1.0 child a.before h.undecided))))

  -- the unit has ended
  ended-moves : HasNoEventLeft (ends (run_seen s)) u → IsGoing (ends (run_seen s)) → false ≡ can_move b.types (ends (run_seen s)) (got_in (run_seen s)) u
  ended-moves h going = (let o = h.over going in sym (over-moves ((ends (run_seen s)).units.phase u) _ (is_free (ends (run_seen s)) u) o.0 ∙ ap not o.1))

-- so a step tells whether the unit can move
pub alone-tells : (b : Basis) (u : UnitNo) (kids : ℕ) (s t : Sight) (a : Advanced) → AnswerSays none_comes b.types u kids s t a → IsAlone (leaves_unit u) s
    → (run_seen s).kinds ≡ length b.types → IsGoing (ends (run_seen s)) → 0 < (run_seen s).base
    → is_move a ≡ can_move b.types (ends (run_seen s)) (got_in (run_seen s)) u
alone-tells b u kids s t (Granted g source) h alone kinds going above = puts-moves b u s t alone above _ _ h.1.1 (puts-applied b.types u s t _ _ refl h.1.1)
alone-tells b u kids s t (Began child call depth) h alone kinds going above = puts-moves b u s t alone above _ _ h (puts-applied b.types u s t _ _ refl h)
alone-tells b u kids s t (Waits holder) h alone kinds going above = waits-moves b u s t alone above holder h
alone-tells b u kids s t (WaitsLoad grain) h alone kinds going above = load-moves b u s t alone above grain h
alone-tells b u kids s t (WaitsFor child) h alone kinds going above = child-moves b u s t alone above child h
alone-tells b u kids s t Ended h alone kinds going above =
    let same : t ≡ s = looks-alone s t h.0 in
    ended-moves b u s t alone above (subst (λ (x : Sight). IfAlone (leaves_unit u) x (λ r. HasNoEventLeft (ends r) u)) same h.1 alone) going
alone-tells b u kids s t Moved (inl (e, p)) alone kinds going above = puts-moves b u s t alone above e _ p (puts-applied b.types u s t e _ refl p)
alone-tells b u kids s t Moved (inr (inl x)) alone kinds going above = absurd (missed-not b.types u s t x alone going)
alone-tells b u kids s t Moved (inr (inr x)) alone kinds going above =
    let same : t ≡ s = looks-alone s t x.looked in
    absurd (x.never (subst (IsAlone (leaves_unit u)) (sym same) alone) (ap (λ (z : Sight). (run_seen z).kinds) same ∙ kinds))
