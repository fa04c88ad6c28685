use Rattle.worker_rules.proofs.Workers.{work-settles, work-stops, work-loads}
use Rattle.worker_rules.proofs.work.workers_leave_the_settler.Goals as goal

pub returns-clause-settling : goal.returns-clause-settling
returns-clause-settling c = work-settles

pub returns-clause-stops : goal.returns-clause-stops
returns-clause-stops c = work-stops

pub returns-clause-loads : goal.returns-clause-loads
returns-clause-loads c = work-loads
