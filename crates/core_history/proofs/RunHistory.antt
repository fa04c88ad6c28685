-- What holds of a history and its state, along a run.
use Rattle.std.proofs.Common.{◌≡◌, List, [], ◌∷◌, ◌++◌, Bool, true, false, refl, sym, ap, ◌∙◌, subst, Option, Some, None, append-nil, append_assoc}
use Rattle.std.proofs.lemmas.Bool.{and_parts, cond-true, cond-false}
use Rattle.core_model.specs.declared.events.CoreEvent.{CoreEvent}
use Rattle.core_model.specs.CoreState.{GrainId, CoreState}
use Rattle.core_model.specs.Changes.{swept, swept_by}
use Rattle.core_model.specs.Events.{applies, is_allowed, can, does, step, run, reply_to, reply_with, reply_without}
use Rattle.core_laws.proofs.EventCases.{Change, decode}
use Rattle.core_history.specs.Histories.{Applied, with_event, history_from}
use Rattle.core_history.proofs.Words.{more}

-- an event that applies, with its reply
abbrev pub answered : CoreState → CoreEvent → Applied
answered w e = record { event = e; reply = reply_with w e }

-- the state where other grains are in memory
abbrev pub with_here : CoreState → (GrainId → Bool) → CoreState
with_here w here = record w { cells = record w.cells { here = here } }

-- what holds after an event's change holds after its step
pub after-step : (P : CoreState → Type 0) (w : CoreState) (e : CoreEvent) → applies w e ≡ true → (Change w e (does w e) → P (does w e)) → ((v : CoreState) (here : GrainId → Bool) → P v → P (with_here v here)) → P (step w e)
after-step P w e a change sweep =
    subst P (sym (cond-true (applies w e) (swept (does w e)) w a)) (go (does w e).cells.capacity)
  where
    p : P (does w e)
    p = change (decode w e (and_parts (is_allowed w e) (can w e) a).1)

    go : (c : Option _) → P (swept_by (does w e) c)
    go None = p
    go (Some n) = sweep (does w e) _ p

-- what each event that applies keeps, a run keeps
pub along : (S : CoreState → List CoreEvent → Type 0) → ((w : CoreState) (e : CoreEvent) (es : List CoreEvent) → S w (e ∷ es) → S (step w e) es) →
    (P : List Applied → CoreState → Type 0) → ((h : List Applied) (w : CoreState) (e : CoreEvent) (es : List CoreEvent) → S w (e ∷ es) → applies w e ≡ true → P h w → P (more h (answered w e)) (step w e)) →
    (h : List Applied) (w : CoreState) (es : List CoreEvent) → S w es → P h w → P (h ++ history_from w es) (run w es)
along S rest P keep h w [] s p = subst (λ t. P t w) (sym (append-nil h)) p
along S rest P keep h w (e ∷ es) s p = go (λ f q. along S rest P keep f (step w e) es (rest w e es s) q) (applies w e) refl
  where
    go : ((f : List Applied) → P f (step w e) → P (f ++ history_from (step w e) es) (run (step w e) es)) → (b : Bool) → applies w e ≡ b → P (h ++ with_event w e (history_from (step w e) es)) (run (step w e) es)
    go next true a =
        let later : List Applied = history_from (step w e) es in
        let told : record { event = e; reply = reply_to w e } ≡ answered w e = ap (λ t. record { event = e; reply = t }) (cond-true (applies w e) (reply_with w e) (reply_without w e) a) in
        let is : with_event w e later ≡ answered w e ∷ later = cond-true (applies w e) (record { event = e; reply = reply_to w e } ∷ later) later a ∙ ap (λ t. t ∷ later) told in
        subst (λ t. P t (run (step w e) es)) (append_assoc h (answered w e ∷ []) later ∙ ap (λ t. h ++ t) (sym is)) (next (more h (answered w e)) (keep h w e es s a p))
    go next false a =
        let later : List Applied = history_from (step w e) es in
        let is : with_event w e later ≡ later = cond-false (applies w e) (record { event = e; reply = reply_to w e } ∷ later) later a in
        let same : step w e ≡ w = cond-false (applies w e) (swept (does w e)) w a in
        subst (λ t. P t (run (step w e) es)) (ap (λ t. h ++ t) (sym is)) (next h (subst (P h) (sym same) p))
