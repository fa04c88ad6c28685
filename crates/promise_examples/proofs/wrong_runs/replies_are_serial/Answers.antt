use Rattle.promise_examples.proofs.WrongRuns.{wrong_total, wrong_order}
use Rattle.promise_examples.proofs.wrong_runs.replies_are_serial.Goals as goal

pub returns-clause-total : goal.returns-clause-total
returns-clause-total c = wrong_total

pub returns-clause-order : goal.returns-clause-order
returns-clause-order c = wrong_order
