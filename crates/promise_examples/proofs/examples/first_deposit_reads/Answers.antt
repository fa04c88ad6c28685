use Rattle.promise_examples.proofs.FirstDeposit.{version_spelled, block_spelled, manager_size, logged, closed_gate, stands, reply}
use Rattle.promise_examples.proofs.examples.first_deposit_reads.Goals as goal

pub returns-clause-version : goal.returns-clause-version
returns-clause-version c = version_spelled

pub returns-clause-block : goal.returns-clause-block
returns-clause-block c = block_spelled

pub returns-clause-size : goal.returns-clause-size
returns-clause-size c = manager_size

pub returns-clause-log : goal.returns-clause-log
returns-clause-log c = logged

pub returns-clause-closed : goal.returns-clause-closed
returns-clause-closed c = closed_gate

pub returns-clause-stands : goal.returns-clause-stands
returns-clause-stands c = stands

pub returns-clause-reply : goal.returns-clause-reply
returns-clause-reply c = reply
