use Rattle.core_laws.proofs.Memory.{bounded-ends}
use Rattle.core_laws.proofs.laws.memory_is_bounded.Goals as goal

pub returns : goal.returns
returns c = λ r above. bounded-ends r above
