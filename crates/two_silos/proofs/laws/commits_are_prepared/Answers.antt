use Rattle.two_silos.proofs.Ends.{prepared-ends}
use Rattle.two_silos.proofs.laws.commits_are_prepared.Goals as goal

pub returns : goal.returns
returns c = λ openings es o. prepared-ends openings es o
