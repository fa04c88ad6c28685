-- A unit's number is given once.
use Rattle.std.proofs.Common.{◌≡◌, ⊎_elim, ℕ, ◌+◌, ◌≤◌, List, [], ◌∷◌, Bool, true, false, Option, Some, None, refl, sym, ap, ◌∙◌, arith, le_refl}
use Rattle.std.specs.Prelude.{if◌then◌else◌}
use Rattle.std.proofs.lemmas.Bool.{and_parts, cond_both}
use Rattle.base_types.specs.Lists.{Member}
use Rattle.core_model.specs.CoreState.{UnitNo, Batch, CoreState}
use Rattle.core_model.specs.Changes.{new_unit, swept, swept_by}
use Rattle.core_model.specs.declared.questions.AskAnswer.{AskAnswer}
use Rattle.core_model.specs.declared.questions.AskAnswer.TheVariants as answer
use Rattle.core_model.specs.declared.events.CoreReply.{CoreReply}
use Rattle.core_model.specs.declared.events.CoreReply.TheVariants as reply
use Rattle.core_model.specs.declared.events.CoreEvent.{CoreEvent}
use Rattle.core_model.specs.declared.events.CoreEvent.TheVariants.{Bad, Begin, Grant, Refuse, Finish, EndPlain, EndSnapshot, Release, Take, Vote, Decide, Sealed, NotSealed, Doubt, Learn, Emitted, Halt, Want, Load}
use Rattle.core_model.specs.Events.{applies, is_allowed, can, does, step, reply_to, reply_with, reply_without, not_granted, decided_reply}
use Rattle.core_model.specs.Tests.{ask_answer}
use Rattle.core_model.specs.LegalRuns.{Run, ends}
use Rattle.core_laws.proofs.EventCases.{Change, bad, begin, lock, raise, refuse, finish, end_plain, end_snapshot, release, take_batch, vote, decide_some, decide_none, seal_batch, spoil_batch, doubt_batch, learn, emit, halt_run, want, load, decode}
use Rattle.turn_rules.specs.NextEvent.{with_event}
use Rattle.turn_rules.proofs.Growth.{ends-more}
use Rattle.worker_rules.specs.SharedHistories.{Told, IsTrue}

-- the number of the next unit
abbrev next : CoreState → ℕ
next w = w.units.next

-- grains that leave memory leave it
swept-next : (w : CoreState) → next (swept w) ≡ next w
swept-next w = go w.cells.capacity
  where
    go : (c : Option ℕ) → next (swept_by w c) ≡ next w
    go None = refl
    go (Some n) = refl

-- no event takes a number back
change-next : (w : CoreState) (e : CoreEvent) (w' : CoreState) → Change w e w' → next w ≤ next w'
change-next w e w' (bad line why q) = le_refl _
change-next w e w' (begin origin call plain c) = omega arith
change-next w e w' (lock u g mode running free first here) = le_refl _
change-next w e w' (raise u g mode running free held here uncovered) = le_refl _
change-next w e w' (refuse u g mode why running q) = le_refl _
change-next w e w' (finish u effect running plain of_call reads alone) = le_refl _
change-next w e w' (end_plain u effect running plain of_call bare) = le_refl _
change-next w e w' (end_snapshot u at outcome running plain kids answer) = le_refl _
change-next w e w' (release u g over held) = le_refl _
change-next w e w' (take_batch none some) = le_refl _
change-next w e w' (vote n g kept b q number d planned fresh) = le_refl _
change-next w e w' (decide_some n b q number d voted some) = le_refl _
change-next w e w' (decide_none n b q number d voted none) = le_refl _
change-next w e w' (seal_batch n b ds q number d) = le_refl _
change-next w e w' (spoil_batch n b ds q number d) = le_refl _
change-next w e w' (doubt_batch n b ds q number d) = le_refl _
change-next w e w' (learn u g wrote final fresh) = le_refl _
change-next w e w' (emit q) = le_refl _
change-next w e w' (halt_run q) = le_refl _
change-next w e w' (want u g running free fresh) = le_refl _
change-next w e w' (load g u state gone wanted) = le_refl _

-- nor does a step
pub step-next : (w : CoreState) (e : CoreEvent) → next w ≤ next (step w e)
step-next w e = by (applies w e) refl
  where
    by : (a : Bool) → applies w e ≡ a → next w ≤ next (if a then swept (does w e) else w)
    by true a =
        let c = change-next w e (does w e) (decode w e (and_parts (is_allowed w e) (can w e) a).1) in
        let s = swept-next (does w e) in
        omega (arith, c, s)
    by false a = le_refl _

-- replies that name a new unit
abbrev names : CoreReply → Bool
names (reply.Began u) = true
names r = false

-- a refused lock names none
not_granted-names : (a : AskAnswer) → names (not_granted a) ≡ false
not_granted-names answer.NotActive = refl
not_granted-names (answer.Doomed s) = refl
not_granted-names answer.Held = refl
not_granted-names (answer.MustDie h) = refl
not_granted-names (answer.MustWait h) = refl
not_granted-names answer.Absent = refl
not_granted-names answer.Free = refl

-- nor does a decision
decided-names : (w : CoreState) (b : Option Batch) → names (decided_reply w b) ≡ false
decided-names w None = refl
decided-names w (Some b) = refl

-- nor an event that doesn't apply
without-names : (w : CoreState) (e : CoreEvent) → names (reply_without w e) ≡ false
without-names w (Grant u g mode) = cond_both (is_allowed w (Grant u g mode)) (not_granted (ask_answer w u g mode)) reply.Unapplied (λ r. names r ≡ false) (λ a. not_granted-names (ask_answer w u g mode)) (λ a. refl)
without-names w (Bad line why) = refl
without-names w (Begin origin call plain) = refl
without-names w (Refuse u g mode) = refl
without-names w (Finish u effect) = refl
without-names w (EndPlain u effect) = refl
without-names w (EndSnapshot u at outcome) = refl
without-names w (Release u g) = refl
without-names w Take = refl
without-names w (Vote n g kept) = refl
without-names w (Decide n) = refl
without-names w (Sealed n) = refl
without-names w (NotSealed n) = refl
without-names w (Doubt n) = refl
without-names w (Learn u g) = refl
without-names w Emitted = refl
without-names w Halt = refl
without-names w (Want u g) = refl
without-names w (Load g u state) = refl

-- one reply names one unit
unit-of : (u v : UnitNo) → reply.Began u ≡ reply.Began v → u.0 ≡ v.0
unit-of u v e = ap number e
  where
    number : CoreReply → ℕ
    number (reply.Began x) = x.0
    number r = 0

-- what names none names not this one
unnamed : {A : Type 0} (r : CoreReply) (u : UnitNo) → r ≡ reply.Began u → names r ≡ false → A
unnamed r u e f = absurd (let t : true ≡ false = sym (ap names e) ∙ f in cc)

-- who is told to have begun has the next number, which is given
with-names : (w : CoreState) (e : CoreEvent) (u : UnitNo) → reply_with w e ≡ reply.Began u → (u.0 ≡ next w) × (next (does w e) ≡ next w + 1)
with-names w (Begin origin call plain) u q = (sym (unit-of (new_unit w) u q), refl)
with-names w (Grant v g mode) u q = unnamed (reply_with w (Grant v g mode)) u q refl
with-names w (Bad line why) u q = unnamed reply.Done u q refl
with-names w (Refuse v g mode) u q = unnamed reply.Done u q refl
with-names w (Finish v effect) u q = unnamed reply.Done u q refl
with-names w (EndPlain v effect) u q = unnamed reply.Done u q refl
with-names w (EndSnapshot v at outcome) u q = unnamed reply.Done u q refl
with-names w (Release v g) u q = unnamed reply.Done u q refl
with-names w Take u q = unnamed (reply.Taken (w.manager.batches + 1)) u q refl
with-names w (Vote n g kept) u q = unnamed reply.Done u q refl
with-names w (Decide n) u q = unnamed (decided_reply w w.manager.batch) u q (decided-names w w.manager.batch)
with-names w (Sealed n) u q = unnamed reply.Done u q refl
with-names w (NotSealed n) u q = unnamed reply.Done u q refl
with-names w (Doubt n) u q = unnamed reply.Done u q refl
with-names w (Learn v g) u q = unnamed reply.Done u q refl
with-names w Emitted u q = unnamed reply.Done u q refl
with-names w Halt u q = unnamed reply.Done u q refl
with-names w (Want v g) u q = unnamed reply.Done u q refl
with-names w (Load g v state) u q = unnamed reply.Done u q refl

-- so does the reply to any event
pub began-next : (w : CoreState) (e : CoreEvent) (u : UnitNo) → reply_to w e ≡ reply.Began u → (u.0 ≡ next w) × (next (step w e) ≡ next w + 1)
began-next w e u = by (applies w e)
  where
    by : (a : Bool) → (if a then reply_with w e else reply_without w e) ≡ reply.Began u → (u.0 ≡ next w) × (next (if a then swept (does w e) else w) ≡ next w + 1)
    by true q = (let p = with-names w e u q in (p.0, swept-next (does w e) ∙ p.1))
    by false q = unnamed (reply_without w e) u q (without-names w e)

-- who begins in a history has a number that wasn't given before it
pub began-above : (log : List Told) (r : Run) (e : Told) (u : UnitNo) → IsTrue r log → Member e log → e.reply ≡ reply.Began u → next (ends r) ≤ u.0
began-above [] r e u legal i q = absurd i
began-above (x ∷ log) r e u legal i q = ⊎_elim
    (λ (t : e ≡ x). let is : reply_to (ends r) x.event ≡ reply.Began u = sym legal.0 ∙ (sym (ap (λ (z : Told). z.reply) t) ∙ q) in let p = (began-next (ends r) x.event u is).0 in omega (arith, p))
    (λ (t : Member e log).
    let ih = began-above log (with_event r x.event) e u legal.1 t q in
    let up = step-next (ends r) x.event in
    let m = ap next (ends-more r x.event) in
    omega (arith, ih, up, m))
    i

-- and no two entries of it begin one unit
pub begins-once : (log : List Told) (r : Run) (e f : Told) (u : UnitNo) → IsTrue r log → Member e log → Member f log → e.reply ≡ reply.Began u → f.reply ≡ reply.Began u → e ≡ f
begins-once [] r e f u legal i j p q = absurd i
begins-once (x ∷ log) r e f u legal i j p q = ⊎_elim
    (λ (s : e ≡ x). ⊎_elim (λ (t : f ≡ x). s ∙ sym t) (λ (t : Member f log). absurd (both e f s t p q)) j)
    (λ (s : Member e log). ⊎_elim (λ (t : f ≡ x). absurd (both f e t s q p)) (λ (t : Member f log). begins-once log (with_event r x.event) e f u legal.1 s t p q) j)
    i
  where
    both : (a b : Told) → a ≡ x → Member b log → a.reply ≡ reply.Began u → b.reply ≡ reply.Began u → ⊥
    both a b s t p' q' =
        let is : reply_to (ends r) x.event ≡ reply.Began u = sym legal.0 ∙ (sym (ap (λ (z : Told). z.reply) s) ∙ p') in
        let n = began-next (ends r) x.event u is in
        let first = n.0 in
        let more = n.1 in
        let above = began-above log (with_event r x.event) b u legal.1 t q' in
        let m = ap next (ends-more r x.event) in
        omega (arith, first, more, above, m)
