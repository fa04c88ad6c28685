-- A core in which no unit begins: its lines are bad, its entries are written, and it may stop. What its counters say of the
-- model's state.
use Rattle.std.specs.Prelude.{◌≡◌, ℕ, ◌+◌, ◌==◌, nat_lt, Bool, true, false, ◌&&◌, not, if◌then◌else◌, [], Option, None, Some, length}
use Rattle.core_model.specs.CoreState.{UnitNo, CoreState}
use Rattle.core_model.specs.declared.phases.Phase.TheVariants.{Unborn}
use Rattle.core_model.specs.declared.phases.Verdict.TheVariants.{Open}
use Rattle.core_model.specs.declared.events.CoreEvent.{CoreEvent}
use Rattle.core_model.specs.declared.events.CoreEvent.TheVariants.{Bad, Emitted, Halt}
use Rattle.core_model.specs.declared.questions.CoreQuestion.{CoreQuestion}
use Rattle.core_model.specs.declared.questions.CoreQuestion.TheVariants as question
use Rattle.core_model.specs.declared.questions.CoreAnswer.{CoreAnswer}
use Rattle.core_model.specs.declared.questions.CoreAnswer.TheVariants as answer
use Rattle.core_model.specs.declared.questions.AskAnswer.TheVariants.{NotActive}
use Rattle.core_model.specs.declared.questions.KnownOutcome.TheVariants.{Undecided}
use Rattle.core_model.specs.LegalRuns.{Run, ends}
use Rattle.access_tests.specs.declared.line_core.LineCore.{LineCore}

-- its run: no type, no limit of memory, and all events that it took
abbrev pub line_run : LineCore → Run
line_run c = record { base = 1; kinds = 0; capacity = None; opening = λ g. []; events = c.history.events }

-- the events that it takes
abbrev pub is_carried : CoreEvent → Bool
is_carried (Bad n why) = true
is_carried Emitted = true
is_carried Halt = true
is_carried _ = false

-- such an event applies, by the counters
abbrev pub may_apply : ℕ → ℕ → Bool → CoreEvent → Bool
may_apply lines written halted (Bad n why) = not halted && (n == lines + 1)
may_apply lines written halted Emitted = nat_lt written lines
may_apply lines written halted Halt = not halted
may_apply lines written halted _ = false

-- the count of lines with one more
abbrev pub lines_with : ℕ → CoreEvent → ℕ
lines_with lines (Bad n why) = n
lines_with lines _ = lines

-- the count of entries that are written with one more
abbrev pub written_with : ℕ → CoreEvent → ℕ
written_with written Emitted = written + 1
written_with written _ = written

-- it stops
abbrev pub halted_with : Bool → CoreEvent → Bool
halted_with halted Halt = true
halted_with halted _ = halted

-- the core with an event counted that applies
abbrev pub counted : LineCore → CoreEvent → LineCore
counted c e = record c {
  lines = lines_with c.lines e;
  written = written_with c.written e;
  halted = halted_with c.halted e;
}

-- the core with an event counted, where it applies
abbrev pub counted_if : Bool → LineCore → CoreEvent → LineCore
counted_if b c e = if b then counted c e else c

-- the event applies to the core
abbrev pub applies_to : LineCore → CoreEvent → Bool
applies_to c e = may_apply c.lines c.written c.halted e

-- what it answers, by the counters
abbrev pub shown_by : ℕ → Bool → CoreQuestion → Option CoreAnswer
shown_by lines halted (question.Ask u g mode) = Some (answer.Ask NotActive)
shown_by lines halted (question.Outcome u) = Some (answer.Outcome Undecided)
shown_by lines halted question.Batch = Some (answer.Batch None)
shown_by lines halted question.NextLearn = Some (answer.NextLearn None)
shown_by lines halted question.CanTake = Some (answer.CanTake false)
shown_by lines halted question.NextLine = Some (answer.NextLine (lines + 1))
shown_by lines halted question.NextSettled = None
shown_by lines halted question.Halted = Some (answer.Halted halted)
shown_by lines halted question.NextWanted = Some (answer.NextWanted None)
shown_by lines halted question.NextStep = None
shown_by lines halted (question.IsDecided u) = Some (answer.IsDecided false)

-- What the counters say of a state: so many lines are bad and settled, so many of their entries written, and nothing else was
-- done, but that the run may have stopped.
pub record OnlyBadLines (bad told : ℕ) (stopped : Bool) (w : CoreState) : Type 0 where
  pub lines : w.units.lines ≡ bad
  pub halt : w.units.halt ≡ stopped
  pub phase : (u : UnitNo) → w.units.phase u ≡ Unborn
  pub wants : w.units.wants ≡ []
  pub capacity : w.cells.capacity ≡ None
  pub order : w.manager.order ≡ []
  pub verdict : (u : UnitNo) → w.manager.verdict u ≡ Open
  pub closed : w.manager.closed ≡ 0
  pub batch : w.manager.batch ≡ None
  pub doubt : w.manager.doubt ≡ None
  pub settled : length w.manager.settled ≡ bad
  pub emitted : w.manager.emitted ≡ told

-- the counters say so of the core's run
abbrev pub IsFit : LineCore → Type 0
IsFit c = OnlyBadLines c.lines c.written c.halted (ends (line_run c))
