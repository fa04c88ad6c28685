use Rattle.two_silos.proofs.Ends.{balance-ends, opening-ends}
use Rattle.two_silos.proofs.laws.balances_follow.Goals as goal

pub returns-clause-sums : goal.returns-clause-sums
returns-clause-sums c = λ openings es o. balance-ends openings es o

pub returns-clause-openings : goal.returns-clause-openings
returns-clause-openings c = λ openings es o. opening-ends openings es o
