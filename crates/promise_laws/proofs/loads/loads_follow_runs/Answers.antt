use Rattle.promise_laws.proofs.LoadRuns.{follows}
use Rattle.promise_laws.proofs.loads.loads_follow_runs.Goals as goal

pub returns : goal.returns
returns c = follows
