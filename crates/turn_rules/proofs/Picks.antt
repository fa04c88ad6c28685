-- How many picks are used up by one more event.
use Rattle.std.proofs.Common.{◌≡◌, ℕ, ◌+◌, List, [], ◌∷◌, length, Bool, true, false, sym, ap, ◌∙◌, arith}
use Rattle.std.specs.Prelude.{count_by, if◌then◌else◌}
use Rattle.std.proofs.Math.Seq.{take-length}
use Rattle.std.proofs.lemmas.Bool.{cond-true, cond-false}
use Rattle.core_model.specs.declared.events.CoreEvent.{CoreEvent}
use Rattle.core_model.specs.Events.{applies}
use Rattle.core_model.specs.LegalRuns.{Run, begins, ends}
use Rattle.promise_spec.specs.Cores.{applied_from}
use Rattle.promise_spec.specs.TurnRule.{mover_of, takes_pick, picks_used}
use Rattle.turn_rules.specs.NextEvent.{with_event}
use Rattle.turn_rules.proofs.Growth.{applied-more}
use Rattle.turn_rules.proofs.ListTests.{count-more, count-none, count-one}

-- ---- picks

-- all picks that were used
picks-all : (r : Run) → picks_used r (length r.events) ≡ count_by (λ e. takes_pick (mover_of e)) (applied_from (begins r) r.events)
picks-all r = ap (λ (l : List CoreEvent). count_by (λ e. takes_pick (mover_of e)) (applied_from (begins r) l)) (take-length r.events)

-- with one more event
picks-more : (r : Run) (e : CoreEvent) → picks_used (with_event r e) (length (with_event r e).events) ≡ picks_used r (length r.events) + count_by (λ x. takes_pick (mover_of x)) (if applies (ends r) e then e ∷ [] else [])
picks-more r e =
    picks-all (with_event r e)
    ∙ ap (count_by (λ x. takes_pick (mover_of x))) (applied-more r.events (begins r) e)
    ∙ count-more (λ x. takes_pick (mover_of x)) (applied_from (begins r) r.events) (if applies (ends r) e then e ∷ [] else [])
    ∙ ap (λ (n : ℕ). n + count_by (λ x. takes_pick (mover_of x)) (if applies (ends r) e then e ∷ [] else [])) (sym (picks-all r))

-- by a mover's event
pub used-one : (r : Run) (e : CoreEvent) (used : ℕ) → used ≡ picks_used r (length r.events) → applies (ends r) e ≡ true → takes_pick (mover_of e) ≡ true → used + 1 ≡ picks_used (with_event r e) (length (with_event r e).events)
used-one r e used q a m =
    ap (λ (n : ℕ). n + 1) q
    ∙ ap (λ (n : ℕ). picks_used r (length r.events) + n) (sym (ap (count_by (λ x. takes_pick (mover_of x))) (cond-true (applies (ends r) e) (e ∷ []) [] a) ∙ count-one (λ x. takes_pick (mover_of x)) e m))
    ∙ sym (picks-more r e)

-- by a line's
pub used-none : (r : Run) (e : CoreEvent) (used : ℕ) → used ≡ picks_used r (length r.events) → takes_pick (mover_of e) ≡ false → used ≡ picks_used (with_event r e) (length (with_event r e).events)
used-none r e used q m = q ∙ plus (applies (ends r) e) ∙ sym (picks-more r e)
  where
    zero_more : (n : ℕ) → n ≡ n + 0
    zero_more n = omega arith

    plus : (b : Bool) → picks_used r (length r.events) ≡ picks_used r (length r.events) + count_by (λ x. takes_pick (mover_of x)) (if b then e ∷ [] else [])
    plus true = zero_more (picks_used r (length r.events)) ∙ ap (λ (n : ℕ). picks_used r (length r.events) + n) (sym (count-none (λ x. takes_pick (mover_of x)) e m))
    plus false = zero_more (picks_used r (length r.events))

-- by one that doesn't apply
pub used-unapplied : (r : Run) (e : CoreEvent) (used : ℕ) → used ≡ picks_used r (length r.events) → applies (ends r) e ≡ false → used ≡ picks_used (with_event r e) (length (with_event r e).events)
used-unapplied r e used q a = q ∙ (let z : picks_used r (length r.events) ≡ picks_used r (length r.events) + 0 = omega arith in z)
    ∙ ap (λ (n : ℕ). picks_used r (length r.events) + n) (sym (ap (count_by (λ x. takes_pick (mover_of x))) (cond-false (applies (ends r) e) (e ∷ []) [] a)))
    ∙ sym (picks-more r e)
