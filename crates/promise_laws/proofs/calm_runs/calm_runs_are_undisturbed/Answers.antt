use Rattle.promise_laws.proofs.CalmRuns.{calm_undisturbed, calm_no_doubt}
use Rattle.promise_laws.proofs.calm_runs.calm_runs_are_undisturbed.Goals as goal

pub returns-clause-undisturbed : goal.returns-clause-undisturbed
returns-clause-undisturbed c = calm_undisturbed

pub returns-clause-no_doubt : goal.returns-clause-no_doubt
returns-clause-no_doubt c = calm_no_doubt
