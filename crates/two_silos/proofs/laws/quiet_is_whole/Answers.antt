use Rattle.two_silos.proofs.FinishedNodes.{whole-ends}
use Rattle.two_silos.proofs.laws.quiet_is_whole.Goals as goal

pub returns : goal.returns
returns c = λ openings es o. whole-ends openings es o
