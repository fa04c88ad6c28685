use Rattle.promise_laws.proofs.BatchEnds.{records-end}
use Rattle.promise_laws.proofs.batches.records_are_whole_batches.Goals as goal

pub returns : goal.returns
returns c = records-end
