use Rattle.promise_examples.proofs.WrongRuns.{more_syncs, fewer_syncs, other_long_syncs}
use Rattle.promise_examples.proofs.Load.{other_syncs}
use Rattle.promise_examples.proofs.wrong_runs.calm_runs_sync_once.Goals as goal

pub returns-clause-more : goal.returns-clause-more
returns-clause-more c = more_syncs

pub returns-clause-fewer : goal.returns-clause-fewer
returns-clause-fewer c = fewer_syncs

pub returns-clause-long : goal.returns-clause-long
returns-clause-long c p r course line = other_long_syncs p r course line

pub returns-clause-load : goal.returns-clause-load
returns-clause-load c = other_syncs
