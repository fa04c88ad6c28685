use Rattle.two_silos.proofs.FinishedNodes.{order-ends}
use Rattle.two_silos.proofs.laws.orders_agree.Goals as goal

pub returns : goal.returns
returns c = λ openings es o. order-ends openings es o
