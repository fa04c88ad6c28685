use Rattle.std.proofs.Common.{◌≡◌, ◌∙◌, sym}
use Rattle.history_core.proofs.QuestionAnswers.{never-rests, none-rests, stopped-rests, wanted-rests}
use Rattle.history_core.proofs.parts.Parts.rest_work.Goals as goal

pub returns-then-not-may : goal.returns-then-not-may
returns-then-not-may c = never-rests c.args.self.now c.args.may c.if-not-may.true

pub returns-then-is_halted : goal.returns-then-is_halted
returns-then-is_halted c = stopped-rests c.args.self.now c.args.may c.is_halted.result c.is_halted.ensures c.if-is_halted.true

pub returns-in-Some : goal.returns-in-Some
returns-in-Some c =
    wanted-rests c.args.self.now c.args.may c.is_halted.result c.in-Some.grain c.if-not-may.false c.is_halted.ensures c.if-is_halted.false (sym c.next_wanted.ensures ∙ c.in-Some.is)

pub returns-in-None : goal.returns-in-None
returns-in-None c =
    none-rests c.args.self.now c.args.may c.is_halted.result c.take_work.result c.if-not-may.false c.is_halted.ensures c.if-is_halted.false (sym c.next_wanted.ensures ∙ c.in-None.is) c.take_work.ensures
