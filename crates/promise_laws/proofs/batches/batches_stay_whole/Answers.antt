use Rattle.promise_laws.proofs.BatchEnds.{batch-stays, batch-stays-run, moments-stay}
use Rattle.promise_laws.proofs.batches.batches_stay_whole.Goals as goal

pub returns-clause-step : goal.returns-clause-step
returns-clause-step c = batch-stays

pub returns-clause-run : goal.returns-clause-run
returns-clause-run c = batch-stays-run

pub returns-clause-moments : goal.returns-clause-moments
returns-clause-moments c = moments-stay
