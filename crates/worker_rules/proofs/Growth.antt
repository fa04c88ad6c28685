-- A doubt and a stop stay, and the count of lines only grows.
use Rattle.std.proofs.Common.{◌≡◌, ℕ, ◌≤◌, Option, Some, None, List, [], ◌∷◌, true≢false, refl, sym, subst, arith, le_refl}
use Rattle.std.proofs.lemmas.Bool.{and_parts, cond_both}
use Rattle.core_model.specs.CoreState.{CoreState}
use Rattle.base_types.specs.declared.calls.Origin.{Origin}
use Rattle.base_types.specs.declared.calls.Origin.TheVariants.{Line, Child}
use Rattle.core_model.specs.Changes.{lines_with, swept, swept_by}
use Rattle.core_model.specs.LockAnswers.{IsGoing}
use Rattle.core_model.specs.declared.events.CoreEvent.{CoreEvent}
use Rattle.core_model.specs.Events.{applies, is_allowed, can, does, step}
use Rattle.core_model.specs.LegalRuns.{Run, ends}
use Rattle.core_laws.proofs.EventCases.{Change, bad, begin, lock, raise, refuse, finish, end_plain, end_snapshot, release, take_batch, vote, decide_some, decide_none, seal_batch, spoil_batch, doubt_batch, learn, emit, halt_run, want, load, decode}
use Rattle.turn_rules.specs.NextEvent.{with_event}
use Rattle.turn_rules.proofs.Growth.{ends-more}
use Rattle.core_access.specs.Histories.{Told, run_after}

-- something is not nothing
some-none : {A B : Type 0} (a : A) → Some a ≡ None → B
some-none a e = absurd cc

-- ---- a doubt and a stop

going-change : (w : CoreState) (e : CoreEvent) (w' : CoreState) → Change w e w' → IsGoing w' → IsGoing w
going-change w e w' (bad line why q) g = g
going-change w e w' (begin origin call plain c) g = g
going-change w e w' (lock u k mode running free first here) g = g
going-change w e w' (raise u k mode running free held here uncovered) g = g
going-change w e w' (refuse u k mode why running q) g = g
going-change w e w' (finish u effect running plain of_call reads alone) g = g
going-change w e w' (end_plain u effect running plain of_call bare) g = g
going-change w e w' (end_snapshot u at outcome running plain kids answer) g = g
going-change w e w' (release u k over held) g = g
going-change w e w' (take_batch none some) g = g
going-change w e w' (vote n k kept b q number d planned fresh) g = g
going-change w e w' (decide_some n b q number d voted some) g = g
going-change w e w' (decide_none n b q number d voted none) g = g
going-change w e w' (seal_batch n b ds q number d) g = g
going-change w e w' (spoil_batch n b ds q number d) g = g
going-change w e w' (doubt_batch n b ds q number d) g = some-none w.manager.closed g.0
going-change w e w' (learn u k wrote final fresh) g = g
going-change w e w' (emit q) g = g
going-change w e w' (halt_run q) g = absurd (true≢false g.1)
going-change w e w' (want u k running free fresh) g = g
going-change w e w' (load k u state gone wanted) g = g

going-swept : (w : CoreState) → IsGoing (swept w) → IsGoing w
going-swept w = go w.cells.capacity
  where
    go : (c : Option ℕ) → IsGoing (swept_by w c) → IsGoing w
    go None g = g
    go (Some n) g = g

-- where there is none behind a step, there was none before it
going-step : (w : CoreState) (e : CoreEvent) → IsGoing (step w e) → IsGoing w
going-step w e = cond_both (applies w e) (swept (does w e)) w (λ (x : CoreState). IsGoing x → IsGoing w)
    (λ a g. going-change w e (does w e) (decode w e (and_parts (is_allowed w e) (can w e) a).1) (going-swept (does w e) g))
    (λ a g. g)

-- nor before an event of a run
pub going-event : (r : Run) (e : CoreEvent) → IsGoing (ends (with_event r e)) → IsGoing (ends r)
going-event r e g = going-step (ends r) e (subst IsGoing (ends-more r e) g)

-- nor before a history
pub going-before : (log : List Told) (r : Run) → IsGoing (ends (run_after r log)) → IsGoing (ends r)
going-before [] r g = g
going-before (x ∷ log) r g = going-event r x.event (going-before log (with_event r x.event) g)

-- ---- the count of lines

abbrev lines : CoreState → ℕ
lines w = w.units.lines

lines-swept : (w : CoreState) → lines (swept w) ≡ lines w
lines-swept w = go w.cells.capacity
  where
    go : (c : Option ℕ) → lines (swept_by w c) ≡ lines w
    go None = refl
    go (Some n) = refl

lines-with : (n : ℕ) (o : Origin) → n ≤ lines_with n o
lines-with n (Line m) = omega arith
lines-with n (Child p i d) = le_refl n

lines-change : (w : CoreState) (e : CoreEvent) (w' : CoreState) → Change w e w' → lines w ≤ lines w'
lines-change w e w' (bad line why q) = omega arith
lines-change w e w' (begin origin call plain c) = lines-with (lines w) origin
lines-change w e w' (lock u k mode running free first here) = le_refl _
lines-change w e w' (raise u k mode running free held here uncovered) = le_refl _
lines-change w e w' (refuse u k mode why running q) = le_refl _
lines-change w e w' (finish u effect running plain of_call reads alone) = le_refl _
lines-change w e w' (end_plain u effect running plain of_call bare) = le_refl _
lines-change w e w' (end_snapshot u at outcome running plain kids answer) = le_refl _
lines-change w e w' (release u k over held) = le_refl _
lines-change w e w' (take_batch none some) = le_refl _
lines-change w e w' (vote n k kept b q number d planned fresh) = le_refl _
lines-change w e w' (decide_some n b q number d voted some) = le_refl _
lines-change w e w' (decide_none n b q number d voted none) = le_refl _
lines-change w e w' (seal_batch n b ds q number d) = le_refl _
lines-change w e w' (spoil_batch n b ds q number d) = le_refl _
lines-change w e w' (doubt_batch n b ds q number d) = le_refl _
lines-change w e w' (learn u k wrote final fresh) = le_refl _
lines-change w e w' (emit q) = le_refl _
lines-change w e w' (halt_run q) = le_refl _
lines-change w e w' (want u k running free fresh) = le_refl _
lines-change w e w' (load k u state gone wanted) = le_refl _

lines-step : (w : CoreState) (e : CoreEvent) → lines w ≤ lines (step w e)
lines-step w e = cond_both (applies w e) (swept (does w e)) w (λ (x : CoreState). lines w ≤ lines x)
    (λ a. subst (λ (n : ℕ). lines w ≤ n) (sym (lines-swept (does w e))) (lines-change w e (does w e) (decode w e (and_parts (is_allowed w e) (can w e) a).1)))
    (λ a. le_refl _)

-- behind a history there are no fewer
pub lines-after : (log : List Told) (r : Run) → lines (ends r) ≤ lines (ends (run_after r log))
lines-after [] r = le_refl _
lines-after (x ∷ log) r =
    let one = subst (λ (w : CoreState). lines (ends r) ≤ lines w) (sym (ends-more r x.event)) (lines-step (ends r) x.event) in
    let more = lines-after log (with_event r x.event) in
    omega (arith, one, more)
