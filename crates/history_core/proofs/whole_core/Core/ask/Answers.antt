use Rattle.std.proofs.Common.{◌≡◌, ◌∙◌, ap}
use Rattle.core_model.specs.CoreState.{CoreState}
use Rattle.core_model.specs.Answers.{answer_to}
use Rattle.core_model.specs.declared.questions.CoreAnswer.{CoreAnswer}
use Rattle.core_model.specs.LegalRuns.{ends}
use Rattle.history_core.specs.Cores.{CoreData, run_of}
use Rattle.history_core.specs.Histories.{run_with}
use Rattle.history_core.specs.Questions.{AnswersQuestion}
use Rattle.history_core.proofs.SameMeaning.{if-ok}
use Rattle.history_core.proofs.OneEvent.{reached-core}
use Rattle.history_core.proofs.whole_core.Core.ask.Goals as goal

pub answer-requires-clause-kept : goal.answer-requires-clause-kept
answer-requires-clause-kept c =
    let old = c.self.inside in
    (ends (run_with old.base old.kinds old.parts.cells old.history.events), c.self.invariant.stands, reached-core old.parts old.base old.kinds old.history.events c.self.invariant.above)

pub returns-clause-told : goal.returns-clause-told
returns-clause-told c =
    let old = c.self.inside in
    let w : CoreState = ends (run_with old.base old.kinds old.parts.cells old.history.events) in
    if-ok c.answer.result (AnswersQuestion old.parts c.args.question.now) (λ (a : CoreAnswer). a ≡ answer_to (ends (run_of c.args.self.now)) c.args.question.now)
    (λ (a : CoreAnswer) h. h w c.self.invariant.stands (reached-core old.parts old.base old.kinds old.history.events c.self.invariant.above)
    ∙ ap (λ (d : CoreData). answer_to (ends (run_of d)) c.args.question.now) c.self.view_is)
    c.answer.ensures.told
