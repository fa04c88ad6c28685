use Rattle.promise_examples.proofs.DoubtRun.{kept}
use Rattle.promise_examples.proofs.examples.doubt_runs_keep.Goals as goal

pub returns : goal.returns
returns c = kept
