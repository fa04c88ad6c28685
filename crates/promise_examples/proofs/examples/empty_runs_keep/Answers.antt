use Rattle.promise_examples.proofs.EmptyRun.{kept}
use Rattle.promise_examples.proofs.examples.empty_runs_keep.Goals as goal

pub returns : goal.returns
returns c = kept
