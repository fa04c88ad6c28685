use Rattle.promise_laws.proofs.SingleRuns.{single_unlocked}
use Rattle.promise_laws.proofs.calm_runs.single_runs_meet_no_lock.Goals as goal

pub returns : goal.returns
returns c = single_unlocked
