use Rattle.promise_laws.proofs.JournalSteps.{asked_seals, begins_at, stays_on, seals_on, settles_on}
use Rattle.promise_laws.proofs.steps.journals_go_on.Goals as goal

pub returns-clause-begins : goal.returns-clause-begins
returns-clause-begins c live p opening old now output past log = begins_at live p opening old now output past log

pub returns-clause-stays : goal.returns-clause-stays
returns-clause-stays c j mid new proper at s = stays_on j.live j.program j.opening j.old j.said j.unsaid mid new proper at s

pub returns-clause-seals : goal.returns-clause-seals
returns-clause-seals c j batch mid new proper at s = seals_on j.live j.program j.opening j.old j.said j.unsaid batch mid new proper at s

pub returns-clause-settles : goal.returns-clause-settles
returns-clause-settles c j more now none at = settles_on j.live j.program j.opening j.old j.said j.unsaid more now none at

pub returns-clause-asked : goal.returns-clause-asked
returns-clause-asked c = asked_seals

pub returns-clause-kept : goal.returns-clause-kept
returns-clause-kept c live p opening before said journal m all image left = (all image left).0
