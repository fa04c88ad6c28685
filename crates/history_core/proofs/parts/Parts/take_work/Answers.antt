use Rattle.history_core.proofs.QuestionAnswers.{rests-is, takes-is}
use Rattle.history_core.proofs.parts.Parts.take_work.Goals as goal

pub returns-then-can_take : goal.returns-then-can_take
returns-then-can_take c = takes-is c.args.self.now c.can_take.result c.can_take.ensures c.if-can_take.true

pub returns-else-can_take : goal.returns-else-can_take
returns-else-can_take c = rests-is c.args.self.now c.can_take.result c.can_take.ensures c.if-can_take.false
