use Rattle.two_silos.proofs.LaterWorlds.{kept-by, kept-alone}
use Rattle.two_silos.proofs.laws.grains_are_kept_by_prepared.Goals as goal

pub returns-clause-kept : goal.returns-clause-kept
returns-clause-kept c = λ openings es o. kept-by openings es o

pub returns-clause-one : goal.returns-clause-one
returns-clause-one c = λ openings es o. kept-alone openings es o
