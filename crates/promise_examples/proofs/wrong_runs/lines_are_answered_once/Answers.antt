use Rattle.promise_examples.proofs.WrongRuns.{answered_twice}
use Rattle.promise_examples.proofs.wrong_runs.lines_are_answered_once.Goals as goal

pub returns : goal.returns
returns c = answered_twice
