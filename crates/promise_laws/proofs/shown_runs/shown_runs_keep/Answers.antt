use Rattle.promise_laws.proofs.ShownRuns.{shown}
use Rattle.promise_laws.proofs.shown_runs.shown_runs_keep.Goals as goal

pub returns : goal.returns
returns c = shown
