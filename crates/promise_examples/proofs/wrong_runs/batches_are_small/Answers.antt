use Rattle.promise_examples.proofs.WrongRuns.{too_many}
use Rattle.promise_examples.proofs.wrong_runs.batches_are_small.Goals as goal

pub returns : goal.returns
returns c = too_many
