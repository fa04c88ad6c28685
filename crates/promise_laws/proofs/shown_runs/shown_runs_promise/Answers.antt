use Rattle.promise_laws.proofs.ShownPromise.{promised}
use Rattle.promise_laws.proofs.shown_runs.shown_runs_promise.Goals as goal

pub returns : goal.returns
returns c m p r course is windowed shows = promised p r course shows m is windowed
