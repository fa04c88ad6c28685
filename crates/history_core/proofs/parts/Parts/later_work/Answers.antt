use Rattle.std.proofs.Common.{◌≡◌, ◌∙◌, sym, None, true, slice_get}
use Rattle.core_model.specs.Settler.{last_step, later_step}
use Rattle.core_model.specs.declared.questions.SettlerWork.{SettlerWork}
use Rattle.history_core.specs.Questions.{ShowsStep}
use Rattle.history_core.proofs.SameMeaning.{if-ok}
use Rattle.history_core.proofs.QuestionAnswers.{learns-is, learnt-is}
use Rattle.history_core.proofs.parts.Parts.later_work.Goals as goal

pub returns-in-None : goal.returns-in-None
returns-in-None c =
    let p = c.args.self.now in
    let none : slice_get p.learn.pairs 0 ≡ None = sym c.first.ensures ∙ c.in-None.is in
    if-ok c.last_work-in-None.result (ShowsStep p (λ w. last_step w true)) (ShowsStep p later_step) (λ (x : SettlerWork) h. learnt-is p x c.if-self.false none h) c.last_work-in-None.ensures

pub returns-in-Some : goal.returns-in-Some
returns-in-Some c =
    let p = c.args.self.now in
    learns-is p c.in-Some.unit c.in-Some.grain c.if-self.false (sym c.first.ensures ∙ c.in-Some.is)
