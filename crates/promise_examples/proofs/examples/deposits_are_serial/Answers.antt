use Rattle.promise_examples.proofs.FirstDeposit.{two_serial, not_serial}
use Rattle.promise_examples.proofs.examples.deposits_are_serial.Goals as goal

pub returns-clause-serial : goal.returns-clause-serial
returns-clause-serial c = two_serial

pub returns-clause-unseen : goal.returns-clause-unseen
returns-clause-unseen c = not_serial
