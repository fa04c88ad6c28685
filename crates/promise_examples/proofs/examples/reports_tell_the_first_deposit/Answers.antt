use Rattle.promise_examples.proofs.FirstDeposit.{shown, told, audited}
use Rattle.promise_examples.proofs.examples.reports_tell_the_first_deposit.Goals as goal

pub returns-clause-show : goal.returns-clause-show
returns-clause-show c = shown

pub returns-clause-history : goal.returns-clause-history
returns-clause-history c = told

pub returns-clause-audit : goal.returns-clause-audit
returns-clause-audit c = audited
