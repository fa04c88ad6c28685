-- What the core takes and answers without memory.
use Rattle.std.specs.Prelude.{Bool, true, false, ◌&&◌}
use Rattle.core_model.specs.declared.events.CoreEvent.{CoreEvent}
use Rattle.core_model.specs.declared.events.CoreEvent.TheVariants as event
use Rattle.core_model.specs.declared.questions.CoreQuestion.{CoreQuestion}
use Rattle.core_model.specs.declared.questions.CoreQuestion.TheVariants as question
use Rattle.core_model.specs.Events.{applies}
use Rattle.core_model.specs.LegalRuns.{Run, ends}

-- an event that takes no memory: its room earlier events made, or it has need of none
abbrev pub has_room : CoreEvent → Bool
has_room (event.Release u g) = true
has_room (event.Vote n g kept) = true
has_room (event.Decide n) = true
has_room (event.Sealed n) = true
has_room (event.NotSealed n) = true
has_room (event.Doubt n) = true
has_room (event.Learn u g) = true
has_room event.Emitted = true
has_room event.Halt = true
has_room (event.Bad line why) = false
has_room (event.Begin origin call plain) = false
has_room (event.Grant v g mode) = false
has_room (event.Refuse v g mode) = false
has_room (event.Finish v effect) = false
has_room (event.EndPlain v effect) = false
has_room (event.EndSnapshot v at outcome) = false
has_room event.Take = false
has_room (event.Want v g) = false
has_room (event.Load g v state) = false

-- behind this run the event applies, and is never answered want of memory
abbrev pub is_spared : Run → CoreEvent → Bool
is_spared r e = applies (ends r) e && has_room e

-- the question's answer is a few numbers, and never want of memory
abbrev pub is_plain : CoreQuestion → Bool
is_plain (question.Ask u g mode) = true
is_plain question.NextLearn = true
is_plain question.CanTake = true
is_plain question.NextLine = true
is_plain question.Halted = true
is_plain question.NextWanted = true
is_plain (question.IsDecided u) = true
is_plain (question.Outcome u) = false
is_plain question.Batch = false
is_plain question.NextSettled = false
is_plain question.NextStep = false
