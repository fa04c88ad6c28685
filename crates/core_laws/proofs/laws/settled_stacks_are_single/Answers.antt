use Rattle.core_laws.proofs.Singles.{single-ends}
use Rattle.core_laws.proofs.laws.settled_stacks_are_single.Goals as goal

pub returns : goal.returns
returns c = λ plays r l. single-ends plays r l
