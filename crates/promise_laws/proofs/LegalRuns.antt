-- Where a run keeps the unit rule and each load is true, the events that applied are a legal run of the core.
use Rattle.std.proofs.Common.{◌≡◌, ◌<◌, ℕ, suc, List, [], ◌∷◌, length, map, Bool, true, Some, refl, sym, ap, ◌∙◌, subst, eqb-true, eq-eqb}
use Rattle.std.specs.Prelude.{◌==◌, take, slice_get}
use Rattle.std.specs.Cmp.{signed_Decides}
use Rattle.std.proofs.lemmas.Bool.{and_parts, and_from, cond_both}
use Rattle.base_types.specs.declared.calls.Value.TheVariants.{Int, Text}
use Rattle.base_types.specs.declared.calls.Outcome.TheVariants as outcome
use Rattle.cell_model.proofs.Units.{same_grain-true, same_grain-is}
use Rattle.core_model.specs.declared.effects.Effect.{Effect}
use Rattle.core_model.specs.declared.events.CoreEvent.{CoreEvent}
use Rattle.core_model.specs.declared.events.CoreEvent.TheVariants.{Finish, EndPlain}
use Rattle.core_model.specs.CoreState.{UnitNo, GrainId, Value, Outcome, CoreState, same_grain}
use Rattle.core_model.specs.Equality.{same_list, same_text, same_value, same_state, same_outcome}
use Rattle.core_model.specs.Events.{applies, step, run}
use Rattle.core_model.specs.SerialOrder.{Plays, AllPlay, AllLoadsTrue}
use Rattle.core_model.specs.LegalRuns.{Run, IsLegal, begins, ends}
use Rattle.core_laws.proofs.Basics.{same_list-true, same_state-true, same_outcome-true}
use Rattle.core_laws.proofs.Replies.{no-change}
use Rattle.script_tree.specs.Programs.{ProgramTree}
use Rattle.script_meaning.specs.Play.{GrainState}
use Rattle.promise_spec.specs.UnitAnswers.{Got, got_from}
use Rattle.promise_spec.specs.Cores.{applied_from, state_before}
use Rattle.promise_spec.specs.UnitRule.{Basis, played_by, IsPlayOf, IsDue, KeepsUnitRule}
use Rattle.promise_laws.specs.Legality.{same_found, is_play, applied_run}

-- a value is itself, by each of the core's tests
same_list-itself : {A : Type 0} (same : A → A → Bool) → ((x : A) → same x x ≡ true) → (xs : List A) → same_list same xs xs ≡ true
same_list-itself same one [] = refl
same_list-itself same one (x ∷ xs) = and_from (same x x) (same_list same xs xs) (one x) (same_list-itself same one xs)

same_text-itself : (a : List ℕ) → same_text a a ≡ true
same_text-itself a = same_list-itself (λ x y. x == y) (λ x. eq-eqb x x refl) a

same_value-itself : (a : Value) → same_value a a ≡ true
same_value-itself (Int a) = (signed_Decides a a).1 refl
same_value-itself (Text a) = same_text-itself a

same_state-itself : (a : List Value) → same_state a a ≡ true
same_state-itself a = same_list-itself same_value same_value-itself a

same_outcome-itself : (a : Outcome) → same_outcome a a ≡ true
same_outcome-itself (outcome.Value a) = same_value-itself a
same_outcome-itself (outcome.Fault a) = same_text-itself a
same_outcome-itself outcome.Aborted = refl

same_found-itself : (a : GrainState) → same_found a a ≡ true
same_found-itself a = and_from (same_grain a.0 a.0) (same_state a.1 a.1) (same_grain-is a.0 a.0 refl) (same_state-itself a.1)

same_found-true : (a b : GrainState) → same_found a b ≡ true → a ≡ b
same_found-true a b e =
    let p = and_parts (same_grain a.0 b.0) (same_state a.1 b.1) e in
    let g : a.0 ≡ b.0 = same_grain-true a.0 b.0 p.0 in
    let s : a.1 ≡ b.1 = same_state-true a.1 b.1 p.1 in
    λ i. (g i, s i)

-- the test says what the type says
pub is_play-true : (types : ProgramTree) (e : Effect) → is_play types e ≡ true → IsPlayOf types e
is_play-true types e t =
    let p = and_parts (same_outcome (played_by types e).result e.result) _ t in
    let q = and_parts (length (played_by types e).asked == length e.answers) _ p.1 in
    let s = and_parts (same_list same_found (played_by types e).reads (map (λ r. (r.grain, r.state)) e.reads)) _ q.1 in
    record {
      result = same_outcome-true _ _ p.0;
      asked = eqb-true _ _ q.0;
      reads = same_list-true same_found same_found-true _ _ s.0;
      writes = same_list-true same_found same_found-true _ _ s.1;
    }

pub is_play-is : (types : ProgramTree) (e : Effect) → IsPlayOf types e → is_play types e ≡ true
is_play-is types e p =
    and_from (same_outcome (played_by types e).result e.result) _
    (ap (same_outcome (played_by types e).result) (sym p.result) ∙ same_outcome-itself (played_by types e).result)
    (and_from (length (played_by types e).asked == length e.answers) _ (eq-eqb _ _ p.asked)
    (and_from (same_list same_found (played_by types e).reads (map (λ r. (r.grain, r.state)) e.reads)) _
    (ap (same_list same_found (played_by types e).reads) (sym p.reads) ∙ same_list-itself same_found same_found-itself (played_by types e).reads)
    (ap (same_list same_found (played_by types e).writes) (sym p.writes) ∙ same_list-itself same_found same_found-itself (played_by types e).writes)))

-- events that don't apply change nothing
pub run-applied : (w : CoreState) (events : List CoreEvent) → run w (applied_from w events) ≡ run w events
run-applied w [] = refl
run-applied w (e ∷ events) =
    let more : run (step w e) (applied_from (step w e) events) ≡ run (step w e) events = run-applied (step w e) events in
    cond_both (applies w e) (e ∷ applied_from (step w e) events) (applied_from (step w e) events) (λ l. run w l ≡ run (step w e) events)
    (λ a. more)
    (λ a. ap (λ v. run v (applied_from (step w e) events)) (sym (no-change w e a)) ∙ more)

pub ends_alike : (r : Run) → ends (applied_run r) ≡ ends r
ends_alike r = run-applied (begins r) r.events

-- what a legal run needs of the effect of an event that applies: it is a play
abbrev Needs : ProgramTree → CoreEvent → Type 0
Needs types (Finish u e) = IsPlayOf types e
Needs types (EndPlain u e) = IsPlayOf types e
Needs types _ = Unit {0}

-- what is due has it
due-needs : (s : Basis) (w : CoreState) (got : UnitNo → List Got) (e : CoreEvent) → IsDue s w got e → Needs s.types e
due-needs s w got (Finish u e) d = d.1
due-needs s w got (EndPlain u e) d = d.1
due-needs s w got _ d = tt

-- each event of the list that applies has it
abbrev AllNeeded : ProgramTree → CoreState → List CoreEvent → Type 0
AllNeeded types w events = (at : ℕ) (e : CoreEvent) → slice_get events at ≡ Some e → applies (run w (take at events)) e ≡ true → Needs types e

later-needed : (types : ProgramTree) (w : CoreState) (e : CoreEvent) (events : List CoreEvent) → AllNeeded types w (e ∷ events) → AllNeeded types (step w e) events
later-needed types w e events all = λ at f there a. all (suc at) f there a

one-plays : (types : ProgramTree) (e : CoreEvent) → Needs types e → Plays (is_play types) e
one-plays types (Finish u e) n = is_play-is types e n
one-plays types (EndPlain u e) n = is_play-is types e n
one-plays types _ n = tt

-- the effects are plays
plays-in : (types : ProgramTree) (w : CoreState) (events : List CoreEvent) → AllNeeded types w events → AllPlay (is_play types) (applied_from w events)
plays-in types w [] all = tt
plays-in types w (e ∷ events) all =
    let rest : AllPlay (is_play types) (applied_from (step w e) events) = plays-in types (step w e) events (later-needed types w e events all) in
    cond_both (applies w e) (e ∷ applied_from (step w e) events) (applied_from (step w e) events) (AllPlay (is_play types))
    (λ a. (one-plays types e (all 0 e refl a), rest))
    (λ a. rest)

-- and the loads that applied are true where each load is
loads-in : (opening : GrainId → List Value) (w : CoreState) (events : List CoreEvent) → AllLoadsTrue opening w events → AllLoadsTrue opening w (applied_from w events)
loads-in opening w [] all = tt
loads-in opening w (e ∷ events) all =
    let rest : AllLoadsTrue opening (step w e) (applied_from (step w e) events) = loads-in opening (step w e) events all.1 in
    cond_both (applies w e) (e ∷ applied_from (step w e) events) (applied_from (step w e) events) (AllLoadsTrue opening w)
    (λ a. (all.0, rest))
    (λ a. subst (λ v. AllLoadsTrue opening v (applied_from (step w e) events)) (no-change w e a) rest)

-- where a run keeps the unit rule, the effects of the events that applied are plays, whatever was loaded
pub rule-plays : (s : Basis) (r : Run) → KeepsUnitRule s r → AllPlay (is_play s.types) (applied_run r).events
rule-plays s r keeps =
    plays-in s.types (begins r) r.events
    (λ at e there a. due-needs s (state_before r at) (got_from (begins r) (take at r.events)) e (keeps at e (record { there = there; applied = a })))

pub legal : (s : Basis) (r : Run) → 0 < r.base → AllLoadsTrue r.opening (begins r) r.events → KeepsUnitRule s r → IsLegal (is_play s.types) (applied_run r)
legal s r above true_loads keeps = record {
  above = above;
  effects = rule-plays s r keeps;
  loads = loads-in r.opening (begins r) r.events true_loads;
}
