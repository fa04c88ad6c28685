use Rattle.promise_spec.proofs.Growing.{sealed_upgrade}
use Rattle.promise_spec.proofs.laws.sealed_upgrades_grow_a_log.Goals as goal

pub returns : goal.returns
returns c = sealed_upgrade
