use Rattle.core_access.proofs.OneHolder.{own-history, core-seen}
use Rattle.history_core.specs.Cores.{run_of}
use Rattle.history_core.proofs.shared_core.CoreAccess.see.Goals as goal

pub returns-clause-legal : goal.returns-clause-legal
returns-clause-legal c = own-history (run_of c.args.self.now)

pub returns-clause-answer : goal.returns-clause-answer
returns-clause-answer c = core-seen c.ask.result (run_of c.args.self.now) c.args.question.now c.ask.ensures.told
