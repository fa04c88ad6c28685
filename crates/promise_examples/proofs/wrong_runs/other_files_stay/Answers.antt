use Rattle.promise_examples.proofs.WrongRuns.{changed_aside, changed_header}
use Rattle.promise_examples.proofs.wrong_runs.other_files_stay.Goals as goal

pub returns-clause-aside : goal.returns-clause-aside
returns-clause-aside c = changed_aside

pub returns-clause-header : goal.returns-clause-header
returns-clause-header c = changed_header
