use Rattle.core_access.proofs.OneHolder.{own-history, core-seen}
use Rattle.access_tests.specs.Lines.{line_run}
use Rattle.access_tests.proofs.line_core.LineCoreAccess.see.Goals as goal

pub returns-clause-legal : goal.returns-clause-legal
returns-clause-legal c = own-history (line_run c.args.self.now)

pub returns-clause-answer : goal.returns-clause-answer
returns-clause-answer c = core-seen c.answer.result (line_run c.args.self.now) c.args.question.now c.answer.ensures.told
