use Rattle.promise_laws.proofs.KeptRuns.{carried_promised}
use Rattle.promise_laws.proofs.whole_folders.carried_runs_promise.Goals as goal

pub returns : goal.returns
returns c = carried_promised
