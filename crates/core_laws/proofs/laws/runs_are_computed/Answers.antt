use Rattle.core_laws.proofs.Examples.{computed}
use Rattle.core_laws.proofs.laws.runs_are_computed.Goals as goal

pub returns : goal.returns
returns c = computed
