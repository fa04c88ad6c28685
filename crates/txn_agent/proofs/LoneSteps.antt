-- Where nobody else puts events, a step that moves goes on by an event that applies.
use Rattle.std.proofs.Common.{◌≡◌, ℕ, length, Bool, true, false, true≢false, inl, inr, refl, sym, ap, ◌∙◌, subst}
use Rattle.std.specs.Prelude.{not, ◌||◌, is_none}
use Rattle.std.proofs.lemmas.Bool.{and_from}
use Rattle.core_model.specs.CoreState.{UnitNo, CoreState}
use Rattle.core_model.specs.declared.events.CoreEvent.{CoreEvent}
use Rattle.core_model.specs.declared.events.CoreReply.{CoreReply}
use Rattle.core_model.specs.LockAnswers.{IsGoing}
use Rattle.core_model.specs.Events.{applies, can, is_after_doubt, is_after_halt, is_allowed, reply_to}
use Rattle.core_model.specs.Replies.{says_no}
use Rattle.core_model.specs.LegalRuns.{ends}
use Rattle.core_laws.proofs.Replies.{reply-tells}
use Rattle.script_tree.specs.Programs.{ProgramTree}
use Rattle.worker_rules.specs.UnitOwnership.{leaves_unit}
use Rattle.core_access.specs.OneHolder.{none_comes}
use Rattle.core_access.specs.Sights.{Sight, run_seen, saw, IsAlone}
use Rattle.core_access.proofs.Sights.{looks-alone, reply-alone, run-alone}
use Rattle.txn_agent.specs.declared.agent.Advanced.{Advanced}
use Rattle.txn_agent.specs.declared.agent.Advanced.TheVariants.{Moved, Granted, Began, Waits, WaitsLoad, WaitsFor, Ended}
use Rattle.txn_agent.specs.AgentStep.{GoesByEvent, AnswerSays, Misses, Puts, is_move}

-- what no stop bars, and can come, applies
pub going-applies : (w : CoreState) (e : CoreEvent) → IsGoing w → can w e ≡ true → applies w e ≡ true
going-applies w e g possible = and_from (is_allowed w e) (can w e)
    (and_from (is_none w.manager.doubt || is_after_doubt e) (not w.units.halt || is_after_halt e)
    (ap (λ o. is_none o || is_after_doubt e) g.0) (ap (λ b. not b || is_after_halt e) g.1)) possible

-- what isn't refused applied
not-refused : (w : CoreState) (e : CoreEvent) (y : CoreReply) → says_no y ≡ false → y ≡ reply_to w e → applies w e ≡ true
not-refused w e y f q = by (applies w e) (sym f ∙ ap says_no q ∙ reply-tells w e)
  where
    by : (b : Bool) → false ≡ not b → b ≡ true
    by true p = refl
    by false p = absurd (true≢false (sym p))

-- an event that was put, and not refused, applied
pub puts-applied : (types : ProgramTree) (u : UnitNo) (s t : Sight) (e : CoreEvent) (y : CoreReply) → says_no y ≡ false → Puts none_comes types u s e y t → applies (ends (run_seen s)) e ≡ true
puts-applied types u s t e y f p = not-refused (ends (run_seen s)) e y f (reply-alone s t e y p.told)

-- and the run goes on by it
puts-goes : (types : ProgramTree) (u : UnitNo) (s t : Sight) (e : CoreEvent) (y : CoreReply) → says_no y ≡ false → Puts none_comes types u s e y t → GoesByEvent u (run_seen s) (run_seen t)
puts-goes types u s t e y f p = record { e = e; own = p.own; applied = puts-applied types u s t e y f p; run = run-alone s t e y p.told }

-- an event that was possible and is missed comes after a doubt or a stop
pub missed-not : (types : ProgramTree) (u : UnitNo) (s t : Sight) → Misses none_comes types u s t → IsAlone (leaves_unit u) s → IsGoing (ends (run_seen s)) → ⊥
missed-not types u s t m alone going = by m.seen (looks-alone s m.seen m.before) m.shown m.put m.missed
  where
    by : (z : Sight) → z ≡ s → (IsAlone (leaves_unit u) z → can (ends (run_seen z)) m.e ≡ true) → (p : Puts none_comes types u z m.e m.r t) → applies (ends (run_seen (saw z p.told.rest))) m.e ≡ false → ⊥
    by z q shown p missed =
        let there : saw z p.told.rest ≡ z = looks-alone z (saw z p.told.rest) (record { rest = p.told.rest; others = p.told.others; sight = refl }) in
        let same : saw z p.told.rest ≡ s = there ∙ q in
        let possible : can (ends (run_seen s)) m.e ≡ true = subst (λ (x : Sight). can (ends (run_seen x)) m.e ≡ true) q (shown (subst (IsAlone (leaves_unit u)) (sym q) alone)) in
        true≢false (sym (going-applies (ends (run_seen s)) m.e going possible) ∙ subst (λ (x : Sight). applies (ends (run_seen x)) m.e ≡ false) same missed)

-- a step that moves
pub alone-goes : (types : ProgramTree) (u : UnitNo) (kids : ℕ) (s t : Sight) (a : Advanced) → AnswerSays none_comes types u kids s t a → IsAlone (leaves_unit u) s
    → (run_seen s).kinds ≡ length types → IsGoing (ends (run_seen s)) → is_move a ≡ true → GoesByEvent u (run_seen s) (run_seen t)
alone-goes types u kids s t (Granted g source) h alone kinds going m = puts-goes types u s t _ _ refl h.1.1
alone-goes types u kids s t (Began child call depth) h alone kinds going m = puts-goes types u s t _ _ refl h
alone-goes types u kids s t (Waits holder) h alone kinds going m = absurd (true≢false (sym m))
alone-goes types u kids s t (WaitsLoad grain) h alone kinds going m = absurd (true≢false (sym m))
alone-goes types u kids s t (WaitsFor child) h alone kinds going m = absurd (true≢false (sym m))
alone-goes types u kids s t Ended h alone kinds going m = absurd (true≢false (sym m))
alone-goes types u kids s t Moved (inl (e, p)) alone kinds going m = puts-goes types u s t e _ refl p
alone-goes types u kids s t Moved (inr (inl x)) alone kinds going m = absurd (missed-not types u s t x alone going)
alone-goes types u kids s t Moved (inr (inr x)) alone kinds going m =
    let same : t ≡ s = looks-alone s t x.looked in
    absurd (x.never (subst (IsAlone (leaves_unit u)) (sym same) alone) (ap (λ (z : Sight). (run_seen z).kinds) same ∙ kinds))

-- one that doesn't
pub alone-waits : (types : ProgramTree) (u : UnitNo) (kids : ℕ) (s t : Sight) (a : Advanced) → AnswerSays none_comes types u kids s t a → is_move a ≡ false → t ≡ s
alone-waits types u kids s t (Waits holder) h m = looks-alone s t h.looked
alone-waits types u kids s t (WaitsLoad grain) h m = looks-alone s t h.looked
alone-waits types u kids s t (WaitsFor child) h m = looks-alone s t h.looked
alone-waits types u kids s t Ended h m = looks-alone s t h.0
alone-waits types u kids s t (Granted g source) h m = absurd (true≢false m)
alone-waits types u kids s t (Began child call depth) h m = absurd (true≢false m)
alone-waits types u kids s t Moved h m = absurd (true≢false m)
