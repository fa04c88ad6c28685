use Rattle.core_access.proofs.OneHolder.{own-history, core-put, core-back, core-spared}
use Rattle.access_tests.specs.Lines.{line_run}
use Rattle.access_tests.proofs.line_core.LineCoreAccess.put.Goals as goal

pub returns-clause-legal : goal.returns-clause-legal
returns-clause-legal c = own-history (line_run c.carry.new.self)

pub returns-clause-put : goal.returns-clause-put
returns-clause-put c = core-put c.carry.result (line_run c.args.self.now) (line_run c.carry.new.self) c.args.event c.carry.ensures.taken

pub returns-clause-refused : goal.returns-clause-refused
returns-clause-refused c = core-back c.carry.result (line_run c.args.self.now) (line_run c.carry.new.self) c.args.event c.carry.ensures.refused

pub returns-clause-unspared : goal.returns-clause-unspared
returns-clause-unspared c = core-spared c.carry.result (line_run c.args.self.now) (line_run c.carry.new.self) c.args.event c.carry.ensures.refused c.carry.ensures.unspared
