use Rattle.promise_examples.proofs.VoteRun.{kept}
use Rattle.promise_examples.proofs.examples.vote_runs_keep.Goals as goal

pub returns : goal.returns
returns c = kept
