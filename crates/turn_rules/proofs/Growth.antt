-- A run that keeps the rules keeps them with one more event that does.
use Rattle.std.proofs.Common.{◌≡◌, ℕ, zero, suc, ◌<◌, List, [], ◌∷◌, ◌++◌, length, get_or, Bool, true, false, ◌⊎◌, inl, inr, Some, refl, sym, ap, ◌∙◌, subst, arith, append_assoc, append-nil}
use Rattle.std.specs.Prelude.{take, slice_get, if◌then◌else◌, count_by}
use Rattle.std.proofs.Math.Seq.{take-length, take-append_seam}
use Rattle.std.proofs.lemmas.List.{take-append-le}
use Rattle.core_model.specs.CoreState.{UnitNo, CoreState}
use Rattle.core_model.specs.declared.events.CoreEvent.{CoreEvent}
use Rattle.core_model.specs.Events.{applies, step, run}
use Rattle.core_model.specs.LegalRuns.{Run, begins, ends}
use Rattle.script_tree.specs.Programs.{ProgramTree}
use Rattle.promise_spec.specs.Cores.{applied_from}
use Rattle.promise_spec.specs.UnitAnswers.{Got, got_from, got_in}
use Rattle.promise_spec.specs.UnitRule.{Basis, IsDue, KeepsUnitRule}
use Rattle.promise_spec.specs.TurnRule.{IsTurnOf, KeepsTurnRule, lock_asked, movers, mover_of, next_wish, passed, takes_pick, units_of}
use Rattle.turn_rules.specs.NextEvent.{with_event, got_next, MayCome, IsNext, movers_in, wish_in}
use Rattle.promise_spec.proofs.Lists.{some_is}

-- what stands in a list with one more stands in the list, or is the last
last-or : {A : Type 0} (xs : List A) (y : A) (at : ℕ) (x : A) → slice_get (xs ++ (y ∷ [])) at ≡ Some x →
    ((slice_get xs at ≡ Some x) × (at < length xs)) ⊎ ((at ≡ length xs) × (y ≡ x))
last-or [] y zero x there = inr (refl, some_is y x there)
last-or [] y (suc at) x there = absurd cc
last-or (z ∷ xs) y zero x there = inl (there, omega arith)
last-or (z ∷ xs) y (suc at) x there = elim (last-or xs y at x there) [
  | inl p ↦ (let less = p.1 in inl (p.0, omega (arith, less)))
  | inr p ↦ inr (ap suc p.0, p.1)
]

-- the state after one more
pub run-more : (es : List CoreEvent) (w : CoreState) (more : List CoreEvent) → run w (es ++ more) ≡ run (run w es) more
run-more [] w more = refl
run-more (e ∷ es) w more = run-more es (step w e) more

-- the last state with one more event
pub ends-more : (r : Run) (e : CoreEvent) → ends (with_event r e) ≡ step (ends r) e
ends-more r e = run-more r.events (begins r) (e ∷ [])

-- each event that applies meets this, by the events before it
abbrev pub EachMeets : (List CoreEvent → CoreEvent → Type 0) → CoreState → List CoreEvent → Type 0
EachMeets Meets w es = (at : ℕ) (e : CoreEvent) → slice_get es at ≡ Some e → applies (run w (take at es)) e ≡ true → Meets (take at es) e

-- with one more that meets it
pub each-grows : (Meets : List CoreEvent → CoreEvent → Type 0) (w : CoreState) (es : List CoreEvent) (e : CoreEvent) → EachMeets Meets w es →
    (applies (run w es) e ≡ true → Meets es e) → EachMeets Meets w (es ++ (e ∷ []))
each-grows Meets w es e all one at f there a = elim (last-or es e at f there) [
  | inl p ↦
      let front : take at (es ++ (e ∷ [])) ≡ take at es = (let less = p.1 in take-append-le at es (e ∷ []) (omega (arith, less))) in
      subst (λ (l : List CoreEvent). Meets l f) (sym front) (all at f p.0 (subst (λ (l : List CoreEvent). applies (run w l) f ≡ true) front a))
  | inr p ↦
      let front : take at (es ++ (e ∷ [])) ≡ es = subst (λ (n : ℕ). take n (es ++ (e ∷ [])) ≡ es) (sym p.0) (take-append_seam es (e ∷ [])) in
      let applied : applies (run w es) f ≡ true = subst (λ (l : List CoreEvent). applies (run w l) f ≡ true) front a in
      subst (λ (l : List CoreEvent). Meets l f) (sym front)
      (subst (Meets es) p.1 (one (subst (λ (g : CoreEvent). applies (run w es) g ≡ true) (sym p.1) applied)))
]

-- by the unit rule
pub unit-grows : (s : Basis) (r : Run) (e : CoreEvent) → KeepsUnitRule s r → MayCome s r e → KeepsUnitRule s (with_event r e)
unit-grows s r e keeps may at f a =
    each-grows (λ before g. IsDue s (run (begins r) before) (got_from (begins r) before) g) (begins r) r.events e
    (λ i g there applied. keeps i g (record { there = there; applied = applied }))
    may at f a.there a.applied

-- by the turn rule
pub turn-grows : (types : ProgramTree) (windowed : Bool) (lines width : ℕ) (picks : List ℕ) (r : Run) (e : CoreEvent) → KeepsTurnRule types windowed lines width picks r → IsNext types windowed lines width picks r e →
    KeepsTurnRule types windowed lines width picks (with_event r e)
turn-grows types windowed lines width picks r e keeps is at f a =
    each-grows (λ before g. IsTurnOf windowed lines width r (run (begins r) before)
    (next_wish (run (begins r) before) (units_of r (run (begins r) before)) (lock_asked types (run (begins r) before) (got_from (begins r) before)) (passed (applied_from (begins r) before)))
    (movers types r (run (begins r) before) (got_from (begins r) before))
    (get_or picks (count_by (λ x. takes_pick (mover_of x)) (applied_from (begins r) before)) 0) g) (begins r) r.events e
    (λ i g there applied. keeps i g (record { there = there; applied = applied }))
    (λ applied. subst (λ (l : List CoreEvent). IsTurnOf windowed lines width r (ends r) (wish_in types r) (movers_in types r)
    (get_or picks (count_by (λ x. takes_pick (mover_of x)) (applied_from (begins r) l)) 0) e)
    (take-length r.events) (is applied))
    at f a.there a.applied

-- what a unit got by a list of events, with one more
pub got-more : (es : List CoreEvent) (w : CoreState) (e : CoreEvent) (u : UnitNo) → got_from w (es ++ (e ∷ [])) u ≡ got_from w es u ++ got_next (run w es) e u
got-more [] w e u = append-nil (got_next w e u)
got-more (f ∷ es) w e u =
    ap (λ (l : List Got). got_next w f u ++ l) (got-more es (step w f) e u)
    ∙ sym (append_assoc (got_next w f u) (got_from (step w f) es u) (got_next (run (step w f) es) e u))

-- so for each unit of a run
pub got-event : (r : Run) (e : CoreEvent) (u : UnitNo) → got_in (with_event r e) u ≡ got_in r u ++ got_next (ends r) e u
got-event r e u = got-more r.events (begins r) e u

-- the events that applied, with one more
pub applied-more : (es : List CoreEvent) (w : CoreState) (e : CoreEvent) → applied_from w (es ++ (e ∷ [])) ≡ applied_from w es ++ (if applies (run w es) e then e ∷ [] else [])
applied-more [] w e = by (applies w e)
  where
    by : (b : Bool) → (if b then e ∷ [] else []) ≡ [] ++ (if b then e ∷ [] else [])
    by true = refl
    by false = refl
applied-more (f ∷ es) w e = by (applied-more es (step w f) e) (applies w f)
  where
    by : applied_from (step w f) (es ++ (e ∷ [])) ≡ applied_from (step w f) es ++ (if applies (run (step w f) es) e then e ∷ [] else []) → (b : Bool) →
        (if b then f ∷ applied_from (step w f) (es ++ (e ∷ [])) else applied_from (step w f) (es ++ (e ∷ []))) ≡
        (if b then f ∷ applied_from (step w f) es else applied_from (step w f) es) ++ (if applies (run (step w f) es) e then e ∷ [] else [])
    by more true = ap (λ (l : List CoreEvent). f ∷ l) more
    by more false = more
