use Rattle.promise_laws.proofs.JournalCrashes.{chained, longest, sound, holds}
use Rattle.promise_laws.proofs.steps.journals_survive.Goals as goal

pub returns-clause-chained : goal.returns-clause-chained
returns-clause-chained c = chained

pub returns-clause-longest : goal.returns-clause-longest
returns-clause-longest c = longest

pub returns-clause-sound : goal.returns-clause-sound
returns-clause-sound c live p opening before journal m image k order = sound live p opening before journal m image k order.serial order.numbered

pub returns-clause-holds : goal.returns-clause-holds
returns-clause-holds c = holds
