use Rattle.promise_examples.proofs.WrongRuns.{locked_and_logged, refused_in_doubt}
use Rattle.promise_examples.proofs.wrong_runs.aborted_units_have_no_record.Goals as goal

pub returns-clause-lock : goal.returns-clause-lock
returns-clause-lock c = locked_and_logged

pub returns-clause-doubt : goal.returns-clause-doubt
returns-clause-doubt c = refused_in_doubt
