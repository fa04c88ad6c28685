use Rattle.promise_examples.proofs.WrongRuns.{untold, taken_unwritten}
use Rattle.promise_examples.proofs.wrong_runs.told_replies_are_written.Goals as goal

pub returns-clause-told : goal.returns-clause-told
returns-clause-told c p r course = untold p r course

pub returns-clause-taken : goal.returns-clause-taken
returns-clause-taken c = taken_unwritten
