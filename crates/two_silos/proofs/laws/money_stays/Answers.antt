use Rattle.two_silos.proofs.Money.{moved-ends, stays-ends}
use Rattle.two_silos.proofs.laws.money_stays.Goals as goal

pub returns-clause-moved : goal.returns-clause-moved
returns-clause-moved c = λ openings es o. moved-ends openings es o

pub returns-clause-stays : goal.returns-clause-stays
returns-clause-stays c = λ openings es o. stays-ends openings es o
