-- Replies tell whether an event applied, and some lists only grow.
use Rattle.std.proofs.Common.{◌≡◌, ℕ, List, [], ◌∷◌, ◌++◌, Bool, true, false, not, refl, sym, ap, ◌∙◌, subst, Option, Some, None}
use Rattle.std.proofs.lemmas.Bool.{and_parts, cond-true, cond-false, cond_both}
use Rattle.base_types.specs.Lists.{IsPrefix}
use Rattle.core_model.specs.CoreState.{nobody, Batch, CoreState}
use Rattle.std.proofs.Common.{append-nil, append_assoc}
use Rattle.base_types.specs.declared.entries.Settled.TheVariants as settled
use Rattle.core_model.specs.declared.questions.AskAnswer.{AskAnswer}
use Rattle.core_model.specs.declared.questions.AskAnswer.TheVariants as answer
use Rattle.core_model.specs.declared.events.CoreReply.TheVariants as reply
use Rattle.core_model.specs.Tests.{ask_answer, members, is_voted}
use Rattle.core_model.specs.Replies.{says_no, OnlyExtends}
use Rattle.core_model.specs.Changes.{entry_for, entries_in, result_told, with_decisions, decisions_of, swept, swept_by}
use Rattle.core_model.specs.Events.{not_granted, reply_with, reply_without, decided_reply, reply_to, is_open}
use Rattle.core_model.specs.LegalRuns.{Run, begins, ends}
use Rattle.core_model.specs.Laws.{extended}
use Rattle.core_model.specs.Events.{applies, can, does, step, run, is_allowed}
use Rattle.core_model.specs.declared.events.CoreEvent.{CoreEvent}
use Rattle.core_model.specs.declared.events.CoreEvent.TheVariants.{Bad, Begin, Grant, Refuse, Finish, EndPlain, EndSnapshot, Release, Take, Vote, Decide, Sealed, NotSealed, Doubt, Learn, Emitted, Halt, Want, Load}
use Rattle.core_laws.proofs.EventCases.{Change, bad, begin, lock, raise, refuse, finish, end_plain, end_snapshot, release, take_batch, vote, decide_some, decide_none, seal_batch, spoil_batch, doubt_batch, learn, emit, halt_run, want, load, decode}
use Rattle.core_laws.proofs.FurtherLaws.{run-append}

without-no : (w : CoreState) (e : CoreEvent) → says_no (reply_without w e) ≡ true
without-no w (Grant u g mode) = cond_both (is_allowed w (Grant u g mode)) (not_granted (ask_answer w u g mode)) reply.Unapplied (λ r. says_no r ≡ true) (λ e. by_ask (ask_answer w u g mode)) (λ e. refl)
  where
    by_ask : (a : AskAnswer) → says_no (not_granted a) ≡ true
    by_ask answer.NotActive = refl
    by_ask (answer.Doomed source) = refl
    by_ask answer.Held = refl
    by_ask (answer.MustDie holder) = refl
    by_ask (answer.MustWait holder) = refl
    by_ask answer.Absent = refl
    by_ask answer.Free = refl
without-no w (Bad line why) = refl
without-no w (Begin origin call plain) = refl
without-no w (Refuse u g mode) = refl
without-no w (Finish u effect) = refl
without-no w (EndPlain u effect) = refl
without-no w (EndSnapshot u at outcome) = refl
without-no w (Release u g) = refl
without-no w (Vote n g kept) = refl
without-no w (Decide n) = refl
without-no w (Sealed n) = refl
without-no w (NotSealed n) = refl
without-no w (Doubt n) = refl
without-no w (Learn u g) = refl
without-no w (Want u g) = refl
without-no w (Load g u state) = refl
without-no w Take = refl
without-no w Emitted = refl
without-no w Halt = refl

with-yes : (w : CoreState) (e : CoreEvent) → can w e ≡ true → says_no (reply_with w e) ≡ false
with-yes w (Bad line why) c = refl
with-yes w (Begin origin call plain) c = refl
with-yes w (Grant u g mode) c = refl
with-yes w (Refuse u g mode) c = refl
with-yes w (Finish u effect) c = refl
with-yes w (EndPlain u effect) c = refl
with-yes w (EndSnapshot u at outcome) c = refl
with-yes w (Release u g) c = refl
with-yes w (Vote n g kept) c = refl
with-yes w (Sealed n) c = refl
with-yes w (NotSealed n) c = refl
with-yes w (Doubt n) c = refl
with-yes w (Learn u g) c = refl
with-yes w (Want u g) c = refl
with-yes w (Load g u state) c = refl
with-yes w Take c = refl
with-yes w Emitted c = refl
with-yes w Halt c = refl
with-yes w (Decide n) c = go w.manager.batch c
  where
    go : (o : Option Batch) → is_open n is_voted o ≡ true → says_no (decided_reply w o) ≡ false
    go None e = cc
    go (Some b) e = refl

-- a reply says no exactly where the event doesn't apply
pub reply-tells : (w : CoreState) (e : CoreEvent) → says_no (reply_to w e) ≡ not (applies w e)
reply-tells w e = by_test (applies w e) refl
  where
    by_test : (t : Bool) → applies w e ≡ t → says_no (reply_to w e) ≡ not (applies w e)
    by_test true a = ap says_no (cond-true (applies w e) (reply_with w e) (reply_without w e) a) ∙ with-yes w e (and_parts (is_allowed w e) (can w e) a).1 ∙ sym (ap not a)
    by_test false a = ap says_no (cond-false (applies w e) (reply_with w e) (reply_without w e) a) ∙ without-no w e ∙ sym (ap not a)

pub no-change : (w : CoreState) (e : CoreEvent) → applies w e ≡ false → step w e ≡ w
no-change w e a = cond-false (applies w e) (swept (does w e)) w a

same-list : {A : Type 0} (xs : List A) → IsPrefix xs xs
same-list xs = ([], sym (append-nil xs))

more-list : {A : Type 0} (xs ys zs : List A) → IsPrefix xs ys → IsPrefix ys zs → IsPrefix xs zs
more-list xs ys zs a b = (a.0 ++ b.0, b.1 ∙ ap (λ t. t ++ b.0) a.1 ∙ append_assoc xs a.0 b.0)

extends-same : (w : CoreState) → OnlyExtends w w
extends-same w = record { order = same-list w.manager.order; past = same-list w.manager.past; settled = same-list w.manager.settled }

extends-more : (a b c : CoreState) → OnlyExtends a b → OnlyExtends b c → OnlyExtends a c
extends-more a b c x y = record {
  order = more-list a.manager.order b.manager.order c.manager.order x.order y.order;
  past = more-list a.manager.past b.manager.past c.manager.past x.past y.past;
  settled = more-list a.manager.settled b.manager.settled c.manager.settled x.settled y.settled;
}

extends-change : (w : CoreState) (e : CoreEvent) (w' : CoreState) → Change w e w' → OnlyExtends w w'
extends-change w e w' (bad line why q) = record { order = same-list w.manager.order; past = same-list w.manager.past; settled = (record { line = line; unit = nobody; what = settled.Bad why } ∷ [], refl) }
extends-change w e w' (begin origin call plain c) = record { order = same-list w.manager.order; past = same-list w.manager.past; settled = same-list w.manager.settled }
extends-change w e w' (lock u g mode running free first here) = record { order = same-list w.manager.order; past = same-list w.manager.past; settled = same-list w.manager.settled }
extends-change w e w' (raise u g mode running free held here uncovered) = record { order = same-list w.manager.order; past = same-list w.manager.past; settled = same-list w.manager.settled }
extends-change w e w' (refuse u g mode why running q) = record { order = same-list w.manager.order; past = same-list w.manager.past; settled = (entry_for (w.units.origin u) u why, refl) }
extends-change w e w' (finish u effect running plain of_call reads alone) = record { order = (u ∷ [], refl); past = same-list w.manager.past; settled = same-list w.manager.settled }
extends-change w e w' (end_plain u effect running plain of_call bare) = record { order = same-list w.manager.order; past = same-list w.manager.past; settled = (entry_for (w.units.origin u) u (settled.Done effect.result), refl) }
extends-change w e w' (end_snapshot u at outcome running plain kids answer) = record { order = same-list w.manager.order; past = same-list w.manager.past; settled = (entry_for (w.units.origin u) u (settled.Done outcome), refl) }
extends-change w e w' (release u g over held) = record { order = same-list w.manager.order; past = same-list w.manager.past; settled = same-list w.manager.settled }
extends-change w e w' (take_batch none some) = record { order = same-list w.manager.order; past = same-list w.manager.past; settled = same-list w.manager.settled }
extends-change w e w' (vote n g kept b q number d planned fresh) = record { order = same-list w.manager.order; past = same-list w.manager.past; settled = same-list w.manager.settled }
extends-change w e w' (decide_some n b q number d voted some) = record { order = same-list w.manager.order; past = same-list w.manager.past; settled = same-list w.manager.settled }
extends-change w e w' (decide_none n b q number d voted none) =
    (let v : CoreState = with_decisions w b (decisions_of w b) in
    record { order = same-list w.manager.order; past = (record b { decisions = Some (decisions_of w b) } ∷ [], refl); settled = (entries_in v (result_told v) (members v b) (decisions_of w b), refl) })
extends-change w e w' (seal_batch n b ds q number d) = record { order = same-list w.manager.order; past = (record b { decisions = Some ds } ∷ [], refl); settled = (entries_in w (result_told w) (members w b) ds, refl) }
extends-change w e w' (spoil_batch n b ds q number d) = record { order = same-list w.manager.order; past = (record b { decisions = Some ds } ∷ [], refl); settled = (entries_in w (λ u. settled.Disk) (members w b) ds, refl) }
extends-change w e w' (doubt_batch n b ds q number d) = record { order = same-list w.manager.order; past = (record b { decisions = Some ds } ∷ [], refl); settled = (entries_in w (λ u. settled.InDoubt) (members w b) ds, refl) }
extends-change w e w' (learn u g wrote final fresh) = record { order = same-list w.manager.order; past = same-list w.manager.past; settled = same-list w.manager.settled }
extends-change w e w' (emit q) = record { order = same-list w.manager.order; past = same-list w.manager.past; settled = same-list w.manager.settled }
extends-change w e w' (halt_run q) = record { order = same-list w.manager.order; past = same-list w.manager.past; settled = same-list w.manager.settled }
extends-change w e w' (want u g running free fresh) = record { order = same-list w.manager.order; past = same-list w.manager.past; settled = same-list w.manager.settled }
extends-change w e w' (load g u state gone wanted) = record { order = same-list w.manager.order; past = same-list w.manager.past; settled = same-list w.manager.settled }

extends-swept : (w w' : CoreState) → OnlyExtends w w' → OnlyExtends w (swept w')
extends-swept w w' x = go w'.cells.capacity
  where
    go : (c : Option ℕ) → OnlyExtends w (swept_by w' c)
    go None = x
    go (Some m) = record { order = x.order; past = x.past; settled = x.settled }

extends-run : (es : List CoreEvent) (w : CoreState) → OnlyExtends w (run w es)
extends-run [] w = extends-same w
extends-run (e ∷ es) w = extends-more w (step w e) (run (step w e) es)
    (cond_both (applies w e) (swept (does w e)) w (OnlyExtends w)
    (λ a. extends-swept w (does w e) (extends-change w e (does w e) (decode w e (and_parts (is_allowed w e) (can w e) a).1)))
    (λ a. extends-same w))
    (extends-run es (step w e))

pub extends-ends : (r : Run) (more : List CoreEvent) → OnlyExtends (ends r) (ends (extended r more))
extends-ends r more = subst (OnlyExtends (ends r)) (sym (run-append (begins r) r.events more)) (extends-run more (ends r))
