use Rattle.promise_examples.proofs.WrittenCheck.{line_is, check_hosted, check_keeps, check_served}
use Rattle.promise_examples.proofs.examples.a_check_is_written_out.Goals as goal

pub returns-clause-line : goal.returns-clause-line
returns-clause-line c = line_is

pub returns-clause-hosted : goal.returns-clause-hosted
returns-clause-hosted c = check_hosted

pub returns-clause-checks : goal.returns-clause-checks
returns-clause-checks c = check_keeps

pub returns-clause-served : goal.returns-clause-served
returns-clause-served c = check_served
