use Rattle.promise_examples.proofs.DepositRun.{kept}
use Rattle.promise_examples.proofs.examples.deposit_runs_keep.Goals as goal

pub returns : goal.returns
returns c = kept
