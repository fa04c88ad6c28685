use Rattle.promise_laws.proofs.JournalSteps.{unbegun_on, doubts_on, doubt_stays_on}
use Rattle.promise_laws.proofs.steps.journals_doubt.Goals as goal

pub returns-clause-unbegun : goal.returns-clause-unbegun
returns-clause-unbegun c j names mid new none proper at s = unbegun_on j.live j.program j.opening j.old j.said j.unsaid names mid new none proper at s

pub returns-clause-doubts : goal.returns-clause-doubts
returns-clause-doubts c j names batch mid new none proper at d = doubts_on j.live j.program j.opening j.old j.said j.unsaid names batch mid new none proper at d

pub returns-clause-stays : goal.returns-clause-stays
returns-clause-stays c j batch mid new proper at moments now = doubt_stays_on j.live j.program j.opening j.old j.said j.unsaid batch mid new proper at moments now
