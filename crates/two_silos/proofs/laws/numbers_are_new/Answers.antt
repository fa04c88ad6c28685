use Rattle.two_silos.proofs.NodeAnswers.{new-ends}
use Rattle.two_silos.proofs.laws.numbers_are_new.Goals as goal

pub returns : goal.returns
returns c = λ openings es o. new-ends openings es o
