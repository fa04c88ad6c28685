use Rattle.two_silos.proofs.Ends.{kept-ends, later-ends}
use Rattle.two_silos.proofs.laws.decisions_are_kept.Goals as goal

pub returns-clause-kept : goal.returns-clause-kept
returns-clause-kept c = λ openings es o. kept-ends openings es o

pub returns-clause-later : goal.returns-clause-later
returns-clause-later c = λ openings es more o n t m. later-ends openings es more o n t m
