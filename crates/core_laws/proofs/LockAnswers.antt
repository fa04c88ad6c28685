-- A unit that asks is answered exactly, and grants and takes apply exactly where they are to.
use Rattle.std.proofs.Common.{◌≡◌, ℕ, List, [], ◌∷◌, Bool, true, false, ◌||◌, not, inl, inr, refl, sym, ap, ◌∙◌, subst, Option, Some, None, map, filter, nat_lt, is_none}
use Rattle.std.proofs.lemmas.Bool.{and_parts, and_from, cond_both, not-true, ltb-true, lt-ltb}
use Rattle.cell_model.specs.Locks as locks
use Rattle.cell_model.specs.Laws.{AnswersExactly}
use Rattle.cell_model.specs.declared.locks.Ask.{Ask}
use Rattle.cell_model.specs.declared.locks.Ask.TheVariants as said
use Rattle.cell_model.proofs.Units.{filter-member, filter-stays, oldest-some, oldest-none}
use Rattle.cell_model.proofs.LockAnswers.{ask-exact}
use Rattle.core_model.specs.declared.questions.AskAnswer.{AskAnswer}
use Rattle.core_model.specs.declared.questions.AskAnswer.TheVariants as answer
use Rattle.core_model.specs.CoreState.{UnitNo, GrainId, Member, Mode, Batch, CoreState}
use Rattle.core_model.specs.declared.effects.Read.{Read}
use Rattle.core_model.specs.declared.phases.Phase.TheVariants.{Running}
use Rattle.core_model.specs.declared.effects.Effect.{Effect}
use Rattle.core_model.specs.Tests.{is_running, is_gone, is_active, doomed_by, ask_answer, ask_lock, ask_doom}
use Rattle.core_model.specs.Causes.{IsRemoved, GoneIsRemoved}
use Rattle.core_model.specs.LockAnswers.{IsActive, IsOldestRemoved, AskExactly, AskedLocks, IsGoing, GrantApplies, TakeApplies, TakesBatch}
use Rattle.core_model.specs.Changes.{after_take, new_batch, swept, swept_by}
use Rattle.core_model.specs.Events.{applies, batch_size, can, does, step, is_allowed, is_after_doubt, is_after_halt, is_free_answer}
use Rattle.core_model.specs.declared.events.CoreEvent.{CoreEvent}
use Rattle.core_model.specs.declared.events.CoreEvent.TheVariants.{Grant, Take}
use Rattle.core_model.specs.LegalRuns.{Run, IsLegal, ends}
use Rattle.core_laws.proofs.Basics.{is_running-true}
use Rattle.core_laws.proofs.EventCases.{none-true}
use Rattle.core_laws.proofs.FurtherLaws.{removed-ends}

source-member : (rs : List Read) (s : UnitNo) → Member s (map (λ r. r.source) rs) → (r : Read) × Member r rs × (r.source ≡ s)
source-member [] s m = absurd m
source-member (r ∷ rs) s (inl q) = (r, inl refl, sym q)
source-member (r ∷ rs) s (inr m) = (let t = source-member rs s m in (t.0, inr t.1, t.2))

member-source : (rs : List Read) (r : Read) → Member r rs → Member r.source (map (λ r. r.source) rs)
member-source [] r m = absurd m
member-source (x ∷ rs) r (inl q) = inl (ap (λ (z : Read). z.source) q)
member-source (x ∷ rs) r (inr m) = inr (member-source rs r m)

module _ (w : CoreState) (u : UnitNo) (g : GrainId) (mode : Mode) where
  active-is : is_active w u g ≡ true → IsActive w u g
  active-is e = (let p = and_parts (is_running (w.units.phase u)) (nat_lt g.kind w.units.kinds) e in (is_running-true _ p.0, ltb-true _ _ p.1))

  inactive-is : is_active w u g ≡ false → IsActive w u g → ⊥
  inactive-is e a = (let z : true ≡ false = sym (and_from (is_running (w.units.phase u)) (nat_lt g.kind w.units.kinds) (ap is_running a.0) (lt-ltb g.kind w.units.kinds a.1)) ∙ e in cc)

  lock-asked : IsActive w u g → (a : Ask) → AnswersExactly (w.cells.holds g) u mode a → (here : Bool) → w.cells.here g ≡ here → AskedLocks w u g mode (ask_lock here a)
  lock-asked act said.Free x true h = (act, x, h)
  lock-asked act said.Free x false h = (act, x, h)
  lock-asked act said.Held x here h = (act, x)
  lock-asked act (said.MustWait v) x here h = (act, x)
  lock-asked act (said.MustDie v) x here h = (act, x)

  doom-asked : IsActive w u g → (o : Option UnitNo) → AskedLocks w u g mode (ask_doom o (ask_lock (w.cells.here g) (locks.ask (w.cells.holds g) u mode)))
  doom-asked act None = lock-asked act (locks.ask (w.cells.holds g) u mode) (ask-exact (w.cells.holds g) u mode) (w.cells.here g) refl
  doom-asked act (Some s) = act

  -- what an answer says of the locks, in every state
  pub asked-locks : AskedLocks w u g mode (ask_answer w u g mode)
  asked-locks = cond_both (is_active w u g) (ask_doom (doomed_by w u) (ask_lock (w.cells.here g) (locks.ask (w.cells.holds g) u mode))) answer.NotActive (AskedLocks w u g mode)
      (λ e. doom-asked (active-is e) (doomed_by w u))
      (λ e. inactive-is e)

module _ (w : CoreState) (gone : GoneIsRemoved w) (u : UnitNo) (g : GrainId) (mode : Mode) where
  by_lock : IsActive w u g → ((r : Read) → Member r (w.units.reads u) → IsRemoved w r → ⊥) → (a : Ask) → AnswersExactly (w.cells.holds g) u mode a → (here : Bool) → w.cells.here g ≡ here → AskExactly w u g mode (ask_lock here a)
  by_lock act un said.Free x true h = (record { active = act; unharmed = un; lock = x }, h)
  by_lock act un said.Free x false h = (record { active = act; unharmed = un; lock = x }, h)
  by_lock act un said.Held x here h = record { active = act; unharmed = un; lock = x }
  by_lock act un (said.MustWait v) x here h = record { active = act; unharmed = un; lock = x }
  by_lock act un (said.MustDie v) x here h = record { active = act; unharmed = un; lock = x }

  unharmed-by : w.units.phase u ≡ Running → doomed_by w u ≡ None → (r : Read) → Member r (w.units.reads u) → IsRemoved w r → ⊥
  unharmed-by run e r m x =
      let n = member-source (filter (is_gone w) (w.units.reads u)) r (filter-stays (is_gone w) (w.units.reads u) r m ((gone u r run m).1 x)) in
      subst (Member r.source) (oldest-none (map (λ r. r.source) (filter (is_gone w) (w.units.reads u))) e) n

  oldest-by : w.units.phase u ≡ Running → (s : UnitNo) → doomed_by w u ≡ Some s → IsOldestRemoved w u s
  oldest-by run s e =
      let t = oldest-some (map (λ r. r.source) (filter (is_gone w) (w.units.reads u))) s e in
      let r = source-member (filter (is_gone w) (w.units.reads u)) s t.0 in
      let f = filter-member (is_gone w) (w.units.reads u) r.0 r.1 in
      record {
        removed = (r.0, f.0, r.2, (gone u r.0 run f.0).0 f.1);
        oldest = λ x m y. t.1 x.source (member-source (filter (is_gone w) (w.units.reads u)) x (filter-stays (is_gone w) (w.units.reads u) x m ((gone u x run m).1 y)));
      }

  by_doom : IsActive w u g → (o : Option UnitNo) → doomed_by w u ≡ o → AskExactly w u g mode (ask_doom o (ask_lock (w.cells.here g) (locks.ask (w.cells.holds g) u mode)))
  by_doom act None q = by_lock act (unharmed-by act.0 q) (locks.ask (w.cells.holds g) u mode) (ask-exact (w.cells.holds g) u mode) (w.cells.here g) refl
  by_doom act (Some s) q = (act, oldest-by act.0 s q)

  asked : AskExactly w u g mode (ask_answer w u g mode)
  asked = cond_both (is_active w u g) (ask_doom (doomed_by w u) (ask_lock (w.cells.here g) (locks.ask (w.cells.holds g) u mode))) answer.NotActive (AskExactly w u g mode)
      (λ e. by_doom (active-is w u g mode e) (doomed_by w u) refl)
      (λ e. inactive-is w u g mode e)

pub ask-ends : (plays : Effect → Bool) (r : Run) → IsLegal plays r → (u : UnitNo) (g : GrainId) (mode : Mode) → AskExactly (ends r) u g mode (ask_answer (ends r) u g mode)
ask-ends plays r l u g mode = asked (ends r) (removed-ends plays r l) u g mode

-- ---- where a grant and a take apply

or-false : (a : Bool) → (a || false) ≡ true → a ≡ true
or-false true e = refl
or-false false e = cc

-- an event that no stop lets through
going-is : (w : CoreState) (e : CoreEvent) → is_after_doubt e ≡ false → is_after_halt e ≡ false → is_allowed w e ≡ true → IsGoing w
going-is w e d h a =
    let p = and_parts (is_none w.manager.doubt || is_after_doubt e) (not w.units.halt || is_after_halt e) a in
    (none-true _ (or-false _ (ap (λ b. is_none w.manager.doubt || b) (sym d) ∙ p.0)), not-true _ (or-false _ (ap (λ b. not w.units.halt || b) (sym h) ∙ p.1)))

allowed-by : (w : CoreState) (e : CoreEvent) → IsGoing w → is_allowed w e ≡ true
allowed-by w e t = and_from (is_none w.manager.doubt || is_after_doubt e) (not w.units.halt || is_after_halt e) (ap (λ o. is_none o || is_after_doubt e) t.0) (ap (λ b. not b || is_after_halt e) t.1)

free-is : (a : AskAnswer) → is_free_answer a ≡ true → a ≡ answer.Free
free-is answer.NotActive e = cc
free-is (answer.Doomed s) e = cc
free-is answer.Held e = cc
free-is (answer.MustDie v) e = cc
free-is (answer.MustWait v) e = cc
free-is answer.Absent e = cc
free-is answer.Free e = refl

pub grant-applies : (w : CoreState) (u : UnitNo) (g : GrainId) (mode : Mode) → GrantApplies w u g mode
grant-applies w u g mode = (
  (λ a. (let p = and_parts (is_allowed w (Grant u g mode)) (can w (Grant u g mode)) a in (going-is w (Grant u g mode) refl refl p.0, free-is (ask_answer w u g mode) p.1))),
  (λ t. and_from (is_allowed w (Grant u g mode)) (can w (Grant u g mode)) (allowed-by w (Grant u g mode) t.0) (ap is_free_answer t.1)),
)

pub take-applies : (w : CoreState) → TakeApplies w
take-applies w = (
  (λ a.
      (let p = and_parts (is_allowed w Take) (can w Take) a in
      let q = and_parts (is_none w.manager.batch) (nat_lt 0 (batch_size w)) p.1 in
      (going-is w Take refl refl p.0, none-true _ q.0, ltb-true _ _ q.1))),
  (λ t.
      and_from (is_allowed w Take) (can w Take) (allowed-by w Take t.0)
      (and_from (is_none w.manager.batch) (nat_lt 0 (batch_size w)) (ap is_none t.1) (lt-ltb 0 (batch_size w) t.2))),
)

pub take-opens : (w : CoreState) → applies w Take ≡ true → (b : Batch) × TakesBatch w (step w Take) b
take-opens w a = cond_both (applies w Take) (swept (does w Take)) w (λ v. (b : Batch) × TakesBatch w v b)
    (λ t. by w.cells.capacity)
    (λ f. (let z : true ≡ false = sym a ∙ f in cc))
  where
    by : (c : Option ℕ) → (b : Batch) × TakesBatch w (swept_by (after_take w (batch_size w)) c) b
    by None = (new_batch w (batch_size w), record { batch = refl; number = refl; units = refl; votes = refl; undecided = refl })
    by (Some m) = (new_batch w (batch_size w), record { batch = refl; number = refl; units = refl; votes = refl; undecided = refl })
