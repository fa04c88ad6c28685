use Rattle.promise_laws.proofs.KeptRuns.{logged_ends, sealing_ends}
use Rattle.promise_laws.proofs.batches.moments_end_batches.Goals as goal

pub returns-clause-logged : goal.returns-clause-logged
returns-clause-logged c = logged_ends

pub returns-clause-sealing : goal.returns-clause-sealing
returns-clause-sealing c = sealing_ends
