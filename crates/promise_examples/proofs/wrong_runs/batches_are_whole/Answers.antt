use Rattle.promise_examples.proofs.WrongRuns.{part_of_batch, one_of_two}
use Rattle.promise_examples.proofs.wrong_runs.batches_are_whole.Goals as goal

pub returns-clause-part : goal.returns-clause-part
returns-clause-part c = part_of_batch

pub returns-clause-one : goal.returns-clause-one
returns-clause-one c = one_of_two
