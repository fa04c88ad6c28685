use Rattle.promise_spec.proofs.Growing.{sealed}
use Rattle.promise_spec.proofs.laws.sealed_batches_grow_a_log.Goals as goal

pub returns : goal.returns
returns c = sealed
