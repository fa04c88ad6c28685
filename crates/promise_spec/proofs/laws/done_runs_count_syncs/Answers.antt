use Rattle.promise_spec.proofs.CountedSyncs.{done_syncs, long_syncs, unbegun_syncs}
use Rattle.promise_spec.proofs.laws.done_runs_count_syncs.Goals as goal

pub returns-clause-done : goal.returns-clause-done
returns-clause-done c = done_syncs

pub returns-clause-long : goal.returns-clause-long
returns-clause-long c p r course line = long_syncs p r course line

pub returns-clause-unbegun : goal.returns-clause-unbegun
returns-clause-unbegun c = unbegun_syncs
