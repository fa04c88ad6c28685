-- What the counts of such a core say, event by event and question by question.
use Rattle.std.proofs.Common.{◌≡◌, ℕ, ◌+◌, List, [], ◌∷◌, ◌++◌, length, Bool, true, false, true≢false, Option, None, refl, sym, ap, ◌∙◌, subst, eqb-true, length-append}
use Rattle.std.specs.Prelude.{◌==◌, nat_lt, ◌&&◌, ◌||◌, not, is_none, if◌then◌else◌}
use Rattle.std.proofs.lemmas.Bool.{and_parts}
use Rattle.core_model.specs.CoreState.{CoreState}
use Rattle.core_model.specs.Changes.{swept, swept_by}
use Rattle.core_model.specs.declared.events.CoreEvent.{CoreEvent}
use Rattle.core_model.specs.declared.events.CoreEvent.TheVariants.{Bad, Begin, Grant, Refuse, Finish, EndPlain, EndSnapshot, Release, Take, Vote, Decide, Sealed, NotSealed, Doubt, Learn, Emitted, Halt, Want, Load}
use Rattle.core_model.specs.Events.{applies, does, step}
use Rattle.core_model.specs.LegalRuns.{Run, begins, ends}
use Rattle.core_model.specs.Laws.{extended}
use Rattle.core_laws.proofs.FurtherLaws.{run-append}
use Rattle.access_tests.specs.declared.line_core.LineCore.{LineCore}
use Rattle.access_tests.specs.Lines.{line_run, is_carried, applies_to, counted_if, may_apply, lines_with, written_with, halted_with, OnlyBadLines, IsFit}

-- ---- tests

or-false : (b : Bool) → (b || false) ≡ b
or-false true = refl
or-false false = refl

or-true : (b : Bool) → (b || true) ≡ true
or-true true = refl
or-true false = refl

and-same : (b : Bool) → (b && b) ≡ b
and-same true = refl
and-same false = refl

-- ---- events

module _ (b k : ℕ) (h : Bool) (w : CoreState) (s : OnlyBadLines b k h w) where
  -- without a doubt and by the mark of a stop
  allowed-but : (x : Bool) → ((is_none w.manager.doubt || false) && (not w.units.halt || false) && x) ≡ (not h && x)
  allowed-but x =
      ap (λ (d : Option ℕ). (is_none d || false) && (not w.units.halt || false) && x) s.doubt
      ∙ ap (λ (y : Bool). y && x) (or-false (not w.units.halt))
      ∙ ap (λ (y : Bool). not y && x) s.halt

  -- the counts say whether an event applies
  pub applies-is : (e : CoreEvent) → is_carried e ≡ true → applies w e ≡ may_apply b k h e
  applies-is (Bad n why) c = allowed-but (n == w.units.lines + 1) ∙ ap (λ (m : ℕ). not h && (n == m + 1)) s.lines
  applies-is Emitted c =
      ap (λ (d : Option ℕ). (is_none d || true) && (not w.units.halt || true) && nat_lt w.manager.emitted (length w.manager.settled)) s.doubt
      ∙ ap (λ (y : Bool). y && nat_lt w.manager.emitted (length w.manager.settled)) (or-true (not w.units.halt))
      ∙ ap (λ (m : ℕ). nat_lt m (length w.manager.settled)) s.emitted
      ∙ ap (λ (m : ℕ). nat_lt k m) s.settled
  applies-is Halt c = allowed-but (not w.units.halt) ∙ ap (λ (y : Bool). not h && not y) s.halt ∙ and-same (not h)
  applies-is (Begin origin call plain) c = absurd (true≢false (sym c))
  applies-is (Grant u g mode) c = absurd (true≢false (sym c))
  applies-is (Refuse u g mode) c = absurd (true≢false (sym c))
  applies-is (Finish u effect) c = absurd (true≢false (sym c))
  applies-is (EndPlain u effect) c = absurd (true≢false (sym c))
  applies-is (EndSnapshot u at outcome) c = absurd (true≢false (sym c))
  applies-is (Release u g) c = absurd (true≢false (sym c))
  applies-is Take c = absurd (true≢false (sym c))
  applies-is (Vote n g kept) c = absurd (true≢false (sym c))
  applies-is (Decide n) c = absurd (true≢false (sym c))
  applies-is (Sealed n) c = absurd (true≢false (sym c))
  applies-is (NotSealed n) c = absurd (true≢false (sym c))
  applies-is (Doubt n) c = absurd (true≢false (sym c))
  applies-is (Learn u g) c = absurd (true≢false (sym c))
  applies-is (Want u g) c = absurd (true≢false (sym c))
  applies-is (Load g u state) c = absurd (true≢false (sym c))

  -- where an event applies, the step is what it does
  step-is : (e : CoreEvent) → applies w e ≡ true → (does w e).cells.capacity ≡ None → step w e ≡ does w e
  step-is e a none = ap (λ (x : Bool). if x then swept (does w e) else w) a ∙ ap (swept_by (does w e)) none

  -- what it does leaves the counts with it
  pub does-stands : (e : CoreEvent) → is_carried e ≡ true → may_apply b k h e ≡ true → OnlyBadLines (lines_with b e) (written_with k e) (halted_with h e) (does w e)
  does-stands (Bad n why) c a =
      let is : n ≡ b + 1 = eqb-true n (b + 1) (and_parts (not h) (n == b + 1) a).1 in record {
        lines = ap (λ (m : ℕ). m + 1) s.lines ∙ sym is;
        halt = s.halt;
        phase = s.phase;
        wants = s.wants;
        capacity = s.capacity;
        order = s.order;
        verdict = s.verdict;
        closed = s.closed;
        batch = s.batch;
        doubt = s.doubt;
        settled = length-append w.manager.settled _ ∙ ap (λ (m : ℕ). m + 1) s.settled ∙ sym is;
        emitted = s.emitted;
      }
  does-stands Emitted c a = record {
    lines = s.lines;
    halt = s.halt;
    phase = s.phase;
    wants = s.wants;
    capacity = s.capacity;
    order = s.order;
    verdict = s.verdict;
    closed = s.closed;
    batch = s.batch;
    doubt = s.doubt;
    settled = s.settled;
    emitted = ap (λ (m : ℕ). m + 1) s.emitted;
  }
  does-stands Halt c a = record {
    lines = s.lines;
    halt = refl;
    phase = s.phase;
    wants = s.wants;
    capacity = s.capacity;
    order = s.order;
    verdict = s.verdict;
    closed = s.closed;
    batch = s.batch;
    doubt = s.doubt;
    settled = s.settled;
    emitted = s.emitted;
  }
  does-stands (Begin origin call plain) c a = absurd (true≢false (sym c))
  does-stands (Grant u g mode) c a = absurd (true≢false (sym c))
  does-stands (Refuse u g mode) c a = absurd (true≢false (sym c))
  does-stands (Finish u effect) c a = absurd (true≢false (sym c))
  does-stands (EndPlain u effect) c a = absurd (true≢false (sym c))
  does-stands (EndSnapshot u at outcome) c a = absurd (true≢false (sym c))
  does-stands (Release u g) c a = absurd (true≢false (sym c))
  does-stands Take c a = absurd (true≢false (sym c))
  does-stands (Vote n g kept) c a = absurd (true≢false (sym c))
  does-stands (Decide n) c a = absurd (true≢false (sym c))
  does-stands (Sealed n) c a = absurd (true≢false (sym c))
  does-stands (NotSealed n) c a = absurd (true≢false (sym c))
  does-stands (Doubt n) c a = absurd (true≢false (sym c))
  does-stands (Learn u g) c a = absurd (true≢false (sym c))
  does-stands (Want u g) c a = absurd (true≢false (sym c))
  does-stands (Load g u state) c a = absurd (true≢false (sym c))

  -- a step leaves the counts with the event, where it applies
  pub step-stands : (e : CoreEvent) → is_carried e ≡ true → (a : Bool) → may_apply b k h e ≡ a →
      OnlyBadLines (if a then lines_with b e else b) (if a then written_with k e else k) (if a then halted_with h e else h) (step w e)
  step-stands e c true a =
      let stands = does-stands e c a in
      subst (OnlyBadLines (lines_with b e) (written_with k e) (halted_with h e)) (sym (step-is e (applies-is e c ∙ a) stands.capacity)) stands
  step-stands e c false a = subst (OnlyBadLines b k h) (sym (ap (λ (x : Bool). if x then swept (does w e) else w) (applies-is e c ∙ a))) s

-- ---- of a run

-- one event more
pub run-stands : (b k : ℕ) (h : Bool) (r : Run) (e : CoreEvent) → OnlyBadLines b k h (ends r) → is_carried e ≡ true → (a : Bool) → may_apply b k h e ≡ a →
    OnlyBadLines (if a then lines_with b e else b) (if a then written_with k e else k) (if a then halted_with h e else h) (ends (extended r (e ∷ [])))
run-stands b k h r e s c a is =
    subst (OnlyBadLines (if a then lines_with b e else b) (if a then written_with k e else k) (if a then halted_with h e else h))
    (sym (run-append (begins r) r.events (e ∷ []))) (step-stands b k h (ends r) s e c a is)

-- ---- of the core's value

-- the run with these events
abbrev run-at : List CoreEvent → Run
run-at es = record { base = 1; kinds = 0; capacity = None; opening = λ g. []; events = es }

-- an event that was counted, where it applies, and noted leaves the counts with it
pub carried-fit : (old mid : LineCore) (e : CoreEvent) (es : List CoreEvent) → IsFit old → is_carried e ≡ true → mid ≡ counted_if (applies_to old e) old e
    → es ≡ mid.history.events ++ (e ∷ []) → OnlyBadLines mid.lines mid.written mid.halted (ends (run-at es))
carried-fit old mid e es fit c is noted =
    subst (λ (l : List CoreEvent). OnlyBadLines mid.lines mid.written mid.halted (ends (run-at l))) (sym noted)
    (subst (λ (m : LineCore). OnlyBadLines m.lines m.written m.halted (ends (run-at (m.history.events ++ (e ∷ []))))) (sym is) (all (applies_to old e) refl))
  where
    all : (a : Bool) → applies_to old e ≡ a → OnlyBadLines (counted_if a old e).lines (counted_if a old e).written (counted_if a old e).halted (ends (run-at ((counted_if a old e).history.events ++ (e ∷ []))))
    all true a = run-stands old.lines old.written old.halted (line_run old) e fit c true a
    all false a = run-stands old.lines old.written old.halted (line_run old) e fit c false a
