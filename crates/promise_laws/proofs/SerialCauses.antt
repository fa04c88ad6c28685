-- A cause among the events that applied is one among all.
use Rattle.std.proofs.Common.{◌≡◌, ◌<◌, List, [], ◌∷◌, ◌++◌, true, inl, inr, refl, sym, ap, ◌∙◌, subst}
use Rattle.std.specs.Prelude.{if◌then◌else◌}
use Rattle.std.proofs.lemmas.Bool.{cases_Bool}
use Rattle.base_types.specs.declared.entries.Entry.{Entry}
use Rattle.core_model.specs.CoreState.{Member, CoreState}
use Rattle.core_model.specs.declared.events.CoreEvent.{CoreEvent}
use Rattle.core_model.specs.Events.{applies, step, run}
use Rattle.core_model.specs.SerialOrder.{AllLoadsTrue}
use Rattle.core_model.specs.LegalRuns.{Run, begins, ends}
use Rattle.core_model.specs.Causes.{HasCause, HasLine, IsCaused}
use Rattle.core_laws.proofs.EntryCauses.{caused-ends}
use Rattle.core_laws.proofs.Replies.{no-change}
use Rattle.promise_spec.specs.Cores.{applied_from}
use Rattle.promise_spec.specs.UnitRule.{Basis, KeepsUnitRule}
use Rattle.promise_laws.specs.Legality.{is_play, applied_run}
use Rattle.promise_spec.proofs.Lists.{head_of, tail_of, none_is}
use Rattle.promise_laws.proofs.LegalRuns.{ends_alike, legal}

-- where an event stands among all, with the same state before it
pub record PutBack (w : CoreState) (events before : List CoreEvent) (event : CoreEvent) : Type 0 where
  pub front : List CoreEvent
  pub back : List CoreEvent
  pub split : events ≡ front ++ (event ∷ back)
  pub same : run w front ≡ run w before

one_more : (w : CoreState) (e : CoreEvent) (events before now : List CoreEvent) (event : CoreEvent) → run (step w e) before ≡ run w now
    → PutBack (step w e) events before event → PutBack w (e ∷ events) now event
one_more w e events before now event same p = record {
  front = e ∷ p.front;
  back = p.back;
  split = ap (λ (l : List CoreEvent). e ∷ l) p.split;
  same = p.same ∙ same;
}

-- the first event applied, and what holds of the rest is given
after_first : (w : CoreState) (x : CoreEvent) (events before later : List CoreEvent) (event : CoreEvent)
    → ((more : List CoreEvent) → applied_from (step w x) events ≡ more ++ (event ∷ later) → PutBack (step w x) events more event)
    → x ∷ applied_from (step w x) events ≡ before ++ (event ∷ later) → PutBack w (x ∷ events) before event
after_first w x events [] later event rest e = record { front = []; back = events; split = ap (λ (y : CoreEvent). y ∷ events) (head_of x event (applied_from (step w x) events) later e); same = refl }
after_first w x events (b ∷ before) later event rest e =
    one_more w x events before (b ∷ before) event (ap (λ y. run (step w y) before) (head_of x b (applied_from (step w x) events) (before ++ (event ∷ later)) e))
    (rest before (tail_of x b (applied_from (step w x) events) (before ++ (event ∷ later)) e))

-- each event that applied stands among all
pub put_back : (w : CoreState) (events before later : List CoreEvent) (event : CoreEvent) → applied_from w events ≡ before ++ (event ∷ later) → PutBack w events before event
put_back w [] [] later event e = absurd (none_is event later (sym e))
put_back w [] (b ∷ before) later event e = absurd (none_is b (before ++ (event ∷ later)) (sym e))
put_back w (x ∷ events) before later event e =
    let applied : List CoreEvent = applied_from (step w x) events in
    elim (cases_Bool (applies w x)) [
      | inl a ↦ after_first w x events before later event (λ more q. put_back (step w x) events more later event q) (sym (ap (λ t. if t then x ∷ applied else applied) a) ∙ e)
      | inr a ↦ one_more w x events before before event (ap (λ v. run v before) (no-change w x a))
          (put_back (step w x) events before later event (sym (ap (λ t. if t then x ∷ applied else applied) a) ∙ e))
    ]

pub explained_causes : (s : Basis) (r : Run) → 0 < r.base → AllLoadsTrue r.opening (begins r) r.events → KeepsUnitRule s r
    → (x : Entry) → Member x (ends r).manager.settled → IsCaused r x
explained_causes s r above loads keeps x there =
    let cause : IsCaused (applied_run r) x =
    caused-ends (is_play s.types) (applied_run r) (legal s r above loads keeps) x (subst (λ (w : CoreState). Member x w.manager.settled) (sym (ends_alike r)) there) in
    let back : PutBack (begins r) r.events cause.before cause.event = put_back (begins r) r.events cause.before cause.later cause.event cause.split in
    record {
      before = back.front;
      event = cause.event;
      later = back.back;
      split = back.split;
      applied = subst (λ v. applies v cause.event ≡ true) (sym back.same) cause.applied;
      cause = subst (λ v. HasCause v cause.event (step v cause.event) x.unit x.what) (sym back.same) cause.cause;
      line = subst (λ v. HasLine v x x.what) (sym back.same) cause.line;
    }
