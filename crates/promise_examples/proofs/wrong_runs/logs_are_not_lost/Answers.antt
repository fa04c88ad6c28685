use Rattle.promise_examples.proofs.WrongRuns.{shorter, closed}
use Rattle.promise_examples.proofs.wrong_runs.logs_are_not_lost.Goals as goal

pub returns-clause-shorter : goal.returns-clause-shorter
returns-clause-shorter c = shorter

pub returns-clause-closed : goal.returns-clause-closed
returns-clause-closed c = closed
