-- What is answered to a question, by what is kept.
use Rattle.std.specs.Prelude.{◌≡◌, Bool, ◌&&◌, not, Option, filter, map, if◌then◌else◌}
use Rattle.core_model.specs.CoreState.{UnitNo, GrainId, CoreState}
use Rattle.core_model.specs.Tests.{first_grain}
use Rattle.core_model.specs.Answers.{answer_to}
use Rattle.core_model.specs.WantedGrains.{next_wanted}
use Rattle.core_model.specs.Settler.{Step, Rests, load_step, work_in}
use Rattle.core_model.specs.declared.questions.CoreQuestion.{CoreQuestion}
use Rattle.core_model.specs.declared.questions.CoreAnswer.{CoreAnswer}
use Rattle.core_model.specs.declared.questions.SettlerWork.{SettlerWork}
use Rattle.cell_table.specs.Table.{here_in}
use Rattle.unit_table.specs.Table.{wants_in}
use Rattle.history_core.specs.declared.parts.Parts.{Parts}
use Rattle.history_core.specs.KeptParts.{PartsStand, IsCoreReached}

-- whatever state is stood for, that is the answer there
abbrev pub AnswersQuestion : Parts → CoreQuestion → CoreAnswer → Type 0
AnswersQuestion p q a = (w : CoreState) → PartsStand p w → IsCoreReached w → a ≡ answer_to w q

-- the first of the grains that somebody waits for and that aren't in memory
abbrev pub wanted_in : Parts → Option GrainId
wanted_in p = first_grain (filter (λ (g : GrainId). not (here_in p.cells g)) (map (λ (t : UnitNo × GrainId). t.1) (wants_in p.units)))

-- behind what is to write: what is wanted comes into memory, then a batch is taken, where these may be and the run isn't to stop
abbrev pub rest_step : Bool → CoreState → Step
rest_step may w = if may && not w.units.halt then load_step w (next_wanted w) else Rests

-- whatever state is stood for, that is shown to the settler for this step of it
abbrev pub ShowsStep : Parts → (CoreState → Step) → SettlerWork → Type 0
ShowsStep p step work = (w : CoreState) → PartsStand p w → IsCoreReached w → work ≡ work_in w (step w)
