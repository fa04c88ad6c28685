-- The answers to questions.
use Rattle.std.specs.Prelude.{◌+◌, List, [], ◌∷◌, ◌||◌, Option, Some, None, filter, map, is_some, slice_get, flat_map, option_map}
use Rattle.core_model.specs.declared.questions.CoreQuestion.{CoreQuestion}
use Rattle.core_model.specs.declared.questions.CoreQuestion.TheVariants as question
use Rattle.core_model.specs.declared.questions.CoreAnswer.{CoreAnswer}
use Rattle.core_model.specs.declared.questions.CoreAnswer.TheVariants as answer
use Rattle.core_model.specs.declared.questions.KnownOutcome.{KnownOutcome}
use Rattle.core_model.specs.declared.questions.KnownOutcome.TheVariants.{Undecided, Decided}
use Rattle.core_model.specs.declared.questions.BatchView.{BatchView}
use Rattle.cell_model.specs.Sources.{with_source}
use Rattle.core_model.specs.CoreState.{UnitNo, Outcome, Batch, CoreState}
use Rattle.core_model.specs.Tests.{is_aborted, is_decided, outcome_of, ask_answer, members}
pub use Rattle.core_model.specs.Effects.{effect_of}
pub use Rattle.core_model.specs.LearnQueue.{next_learn}
pub use Rattle.core_model.specs.WantedGrains.{next_wanted}
use Rattle.core_model.specs.Settler.{settler_step, work_in}
use Rattle.core_model.specs.Events.{applies, Take}

-- an outcome, where it is known
abbrev pub known : Option Outcome → KnownOutcome
known None = Undecided
known (Some o) = Decided o

-- these units in order, each once
abbrev pub as_set : List UnitNo → List UnitNo
as_set [] = []
as_set (u ∷ us) = with_source (as_set us) u

-- the aborted sources of these units
abbrev pub aborted_sources : CoreState → List UnitNo → List UnitNo
aborted_sources w us = as_set (filter (λ d. is_aborted (w.manager.verdict d)) (flat_map (λ u. w.units.deps u) us))

-- what is shown of the open batch
abbrev pub view : CoreState → Batch → BatchView
view w b = record {
  batch = b.number;
  effects = map (effect_of w) (members w b);
  aborted = aborted_sources w (members w b);
  votes = b.votes;
  decisions = b.decisions;
}

-- the answer to a question
abbrev pub answer_to : CoreState → CoreQuestion → CoreAnswer
answer_to w (question.Ask u g mode) = answer.Ask (ask_answer w u g mode)
answer_to w (question.Outcome u) = answer.Outcome (known (outcome_of w u))
answer_to w question.Batch = answer.Batch (option_map (view w) w.manager.batch)
answer_to w question.NextLearn = answer.NextLearn (next_learn w)
answer_to w question.CanTake = answer.CanTake (applies w Take)
answer_to w question.NextLine = answer.NextLine (w.units.lines + 1)
answer_to w question.NextSettled = answer.NextSettled (slice_get w.manager.settled w.manager.emitted)
answer_to w question.Halted = answer.Halted (w.units.halt || is_some w.manager.doubt)
answer_to w question.NextWanted = answer.NextWanted (next_wanted w)
answer_to w question.NextStep = answer.NextStep (work_in w (settler_step w))
answer_to w (question.IsDecided u) = answer.IsDecided (is_decided w u)
