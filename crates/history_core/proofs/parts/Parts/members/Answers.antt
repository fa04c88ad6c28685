use Rattle.history_core.proofs.QuestionAnswers.{members-within}
use Rattle.history_core.proofs.parts.Parts.members.Goals as goal

pub slice_bounds-result-end : goal.slice_bounds-result-end
slice_bounds-result-end c = members-within c.args.self.now c.requires c.owed-size.result c.deref.result.now c.owed-size.ensures.size c.deref.ensures.value
