use Rattle.two_silos.proofs.LaterWorlds.{one-decision, later-ends}
use Rattle.two_silos.proofs.laws.decisions_stay.Goals as goal

pub returns-clause-one : goal.returns-clause-one
returns-clause-one c = λ openings es o. one-decision openings es o

pub returns-clause-later : goal.returns-clause-later
returns-clause-later c = λ openings es more. later-ends openings es more
