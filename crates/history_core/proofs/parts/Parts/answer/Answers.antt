use Rattle.std.proofs.Common.{◌∙◌, sym, ap, Option}
use Rattle.core_model.specs.CoreState.{UnitNo, GrainId}
use Rattle.core_model.specs.declared.questions.CoreQuestion.TheVariants as question
use Rattle.core_model.specs.declared.questions.CoreAnswer.TheVariants as answer
use Rattle.history_core.proofs.Grants.{ask-is}
use Rattle.history_core.proofs.QuestionAnswers.{answers-that, learn-is, wanted-is}
use Rattle.history_core.proofs.parts.Parts.answer.Goals as goal

pub returns-in-Ask-clause-told : goal.returns-in-Ask-clause-told
returns-in-Ask-clause-told c =
    let p = c.args.self.now in
    answers-that p c.args.question.now (question.Ask c.in-Ask.unit c.in-Ask.grain c.in-Ask.mode) (answer.Ask c.ask.result) c.in-Ask.is
    (λ w s r. ap answer.Ask (c.ask.ensures ∙ ask-is p w c.in-Ask.unit c.in-Ask.grain c.in-Ask.mode s r))

pub returns-in-NextLearn-clause-told : goal.returns-in-NextLearn-clause-told
returns-in-NextLearn-clause-told c =
    let p = c.args.self.now in
    answers-that p c.args.question.now question.NextLearn (answer.NextLearn c.first.result) c.in-NextLearn.is
    (λ w s r. ap (λ (t : Option (UnitNo × GrainId)). answer.NextLearn t) (c.first.ensures ∙ learn-is p w s))

pub returns-in-NextWanted-clause-told : goal.returns-in-NextWanted-clause-told
returns-in-NextWanted-clause-told c =
    let p = c.args.self.now in
    answers-that p c.args.question.now question.NextWanted (answer.NextWanted c.next_wanted.result) c.in-NextWanted.is
    (λ w s r. ap (λ (g : Option GrainId). answer.NextWanted g) (c.next_wanted.ensures ∙ wanted-is p w s))
