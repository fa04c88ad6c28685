-- The number of each line has 32 bits.
use Rattle.std.proofs.Common.{◌≡◌, ℕ, ◌+◌, ◌<◌, ◌^◌, List, [], ◌∷◌, ◌++◌, Bool, true, false, refl, sym, ap, ◌∙◌, subst, arith, eqb-true, Option, Some, None}
use Rattle.std.proofs.lemmas.Bool.{cond-true, cond-false}
use Rattle.base_types.specs.declared.calls.Origin.TheVariants.{Line, Child}
use Rattle.cell_model.specs.Locks.{holds_lock}
use Rattle.core_model.specs.CoreState.{UnitNo, GrainId, Mode, Batch, Decision, Settled, CoreState}
use Rattle.core_model.specs.Tests.{any, ask_answer}
use Rattle.cell_model.specs.Decisions.{is_commit}
use Rattle.core_model.specs.Changes.{refusal, refused_by, after_grant, after_lock, after_raise, restacked, cleaned, on_batch, on_decided, on_decisions, voted, decided, decided_by, decisions_of, with_decisions, sealed, spoiled, in_doubt, swept, swept_by}
use Rattle.core_model.specs.Events.{applies, can, does, step}
use Rattle.core_model.specs.declared.events.CoreEvent.{CoreEvent}
use Rattle.core_model.specs.declared.events.CoreEvent.TheVariants.{Bad, Begin, Grant, Refuse, Finish, EndPlain, EndSnapshot, Release, Take, Vote, Decide, Sealed, NotSealed, Doubt, Learn, Emitted, Halt, Want, Load}
use Rattle.history_core.specs.LockAnswers.{FitsEvent}
use Rattle.core_model.specs.LegalRuns.{ends}
use Rattle.core_model.specs.Events.{run, start}
use Rattle.cell_table.specs.Table.{opens_with}
use Rattle.history_core.specs.declared.parts.Parts.{Parts}
use Rattle.history_core.specs.Histories.{run_with}
use Rattle.history_core.proofs.OneEvent.{can-is, run-last}

abbrev pub lines : CoreState → ℕ
lines w = w.units.lines

refused-lines : (w : CoreState) (u : UnitNo) (o : Option Settled) → lines (refused_by w u o) ≡ lines w
refused-lines w u None = refl
refused-lines w u (Some why) = refl

granted-lines : (w : CoreState) (u : UnitNo) (g : GrainId) (mode : Mode) (b : Bool) → holds_lock u (w.cells.holds g) ≡ b → lines (after_grant w u g mode) ≡ lines w
granted-lines w u g mode true e = ap lines (cond-true (holds_lock u (w.cells.holds g)) (after_raise (restacked w g (cleaned w g)) u g mode) (after_lock (restacked w g (cleaned w g)) u g mode) e)
granted-lines w u g mode false e = ap lines (cond-false (holds_lock u (w.cells.holds g)) (after_raise (restacked w g (cleaned w g)) u g mode) (after_lock (restacked w g (cleaned w g)) u g mode) e)

decided-lines : (w : CoreState) (b : Batch) (ds : List Decision) (c : Bool) → any is_commit ds ≡ c → lines (decided_by w b ds) ≡ lines w
decided-lines w b ds true e = ap lines (cond-true (any is_commit ds) (with_decisions w b ds) (sealed (with_decisions w b ds) b ds) e)
decided-lines w b ds false e = ap lines (cond-false (any is_commit ds) (with_decisions w b ds) (sealed (with_decisions w b ds) b ds) e)

batch-lines : (w : CoreState) (f : Batch → CoreState) (o : Option Batch) → ((b : Batch) → lines (f b) ≡ lines w) → lines (on_batch w f o) ≡ lines w
batch-lines w f None h = refl
batch-lines w f (Some b) h = h b

closed-lines : (w : CoreState) (f : Batch → List Decision → CoreState) (o : Option Batch) → ((b : Batch) (ds : List Decision) → lines (f b ds) ≡ lines w) → lines (on_decided w f o) ≡ lines w
closed-lines w f None h = refl
closed-lines w f (Some b) h = go b.decisions
  where
    go : (o : Option (List Decision)) → lines (on_decisions w (f b) o) ≡ lines w
    go None = refl
    go (Some ds) = h b ds

same : (w v : CoreState) → lines v ≡ lines w → lines w < 2 ^ 32 → lines v < 2 ^ 32
same w v e h = subst (λ n. n < 2 ^ 32) (sym e) h

-- an event that applies
does-few : (w : CoreState) (e : CoreEvent) → can w e ≡ true → FitsEvent e → lines w < 2 ^ 32 → lines (does w e) < 2 ^ 32
does-few w (Bad line why) c fits h = subst (λ n. n < 2 ^ 32) (eqb-true line (lines w + 1) c) fits
does-few w (Begin (Line n) call plain) c fits h = subst (λ k. k < 2 ^ 32) (eqb-true n (lines w + 1) c) fits
does-few w (Begin (Child p i d) call plain) c fits h = h
does-few w (Grant u g mode) c fits h = same w (after_grant w u g mode) (granted-lines w u g mode (holds_lock u (w.cells.holds g)) refl) h
does-few w (Refuse u g mode) c fits h = same w (refused_by w u (refusal g (ask_answer w u g mode))) (refused-lines w u (refusal g (ask_answer w u g mode))) h
does-few w (Finish u effect) c fits h = h
does-few w (EndPlain u effect) c fits h = h
does-few w (EndSnapshot u at outcome) c fits h = h
does-few w (Release u g) c fits h = h
does-few w Take c fits h = h
does-few w (Vote n g kept) c fits h = same w (does w (Vote n g kept)) (batch-lines w (λ b. voted w b g kept) w.manager.batch (λ b. refl)) h
does-few w (Decide n) c fits h = same w (does w (Decide n)) (batch-lines w (decided w) w.manager.batch (λ b. decided-lines w b (decisions_of w b) (any is_commit (decisions_of w b)) refl)) h
does-few w (Sealed n) c fits h = same w (does w (Sealed n)) (closed-lines w (sealed w) w.manager.batch (λ b ds. refl)) h
does-few w (NotSealed n) c fits h = same w (does w (NotSealed n)) (closed-lines w (spoiled w) w.manager.batch (λ b ds. refl)) h
does-few w (Doubt n) c fits h = same w (does w (Doubt n)) (closed-lines w (in_doubt w) w.manager.batch (λ b ds. refl)) h
does-few w (Learn u g) c fits h = h
does-few w Emitted c fits h = h
does-few w Halt c fits h = h
does-few w (Want u g) c fits h = h
does-few w (Load g u state) c fits h = h

swept-few : (w : CoreState) (o : Option ℕ) → lines (swept_by w o) ≡ lines w
swept-few w None = refl
swept-few w (Some n) = refl

-- a step
pub step-few : (w : CoreState) (e : CoreEvent) → FitsEvent e → lines w < 2 ^ 32 → lines (step w e) < 2 ^ 32
step-few w e fits h = go (applies w e) refl
  where
    go : (b : Bool) → applies w e ≡ b → lines (step w e) < 2 ^ 32
    go true a = same (does w e) (step w e) (ap lines (cond-true (applies w e) (swept (does w e)) w a) ∙ swept-few (does w e) (does w e).cells.capacity) (does-few w e (can-is w e a) fits h)
    go false a = same w (step w e) (ap lines (cond-false (applies w e) (swept (does w e)) w a)) h

-- of the longer run
pub few-after : (p p' : Parts) (base kinds : ℕ) (es es' : List CoreEvent) (e : CoreEvent) → opens_with p'.cells ≡ opens_with p.cells → es' ≡ es ++ e ∷ [] → FitsEvent e →
    lines (ends (run_with base kinds p.cells es)) < 2 ^ 32 → lines (ends (run_with base kinds p'.cells es')) < 2 ^ 32
few-after p p' base kinds es es' e o h fits few =
    subst (λ w. lines w < 2 ^ 32) (sym ((λ i. run (start base kinds (o i).limit (o i).states) (h i)) ∙ run-last (start base kinds (opens_with p.cells).limit (opens_with p.cells).states) es e))
    (step-few (run (start base kinds (opens_with p.cells).limit (opens_with p.cells).states) es) e fits few)

-- of the run that is as it was
pub few-before : (p p' : Parts) (base kinds : ℕ) (es : List CoreEvent) → opens_with p'.cells ≡ opens_with p.cells →
    lines (ends (run_with base kinds p.cells es)) < 2 ^ 32 → lines (ends (run_with base kinds p'.cells es)) < 2 ^ 32
few-before p p' base kinds es o few = subst (λ w. lines w < 2 ^ 32) (sym (λ i. run (start base kinds (o i).limit (o i).states) es)) few

-- before any event
pub few-new : (p : Parts) (base kinds : ℕ) (es : List CoreEvent) → es ≡ [] → lines (ends (run_with base kinds p.cells es)) < 2 ^ 32
few-new p base kinds es h = subst (λ xs. lines (ends (run_with base kinds p.cells xs)) < 2 ^ 32) (sym h) (none base kinds)
  where
    none : (b k : ℕ) → lines (start b k (opens_with p.cells).limit (opens_with p.cells).states) < 2 ^ 32
    none b k = (let t : 0 < 2 ^ 32 = omega arith in t)
