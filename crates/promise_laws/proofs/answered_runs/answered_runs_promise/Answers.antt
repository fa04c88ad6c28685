use Rattle.promise_laws.proofs.OpenedRuns.{answered_promised}
use Rattle.promise_laws.proofs.answered_runs.answered_runs_promise.Goals as goal

pub returns : goal.returns
returns c m p r course answers is windowed reads lasts = answered_promised p r course answers m is windowed reads lasts
