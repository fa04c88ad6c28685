use Rattle.promise_laws.proofs.ProperEntries.{settled-proper}
use Rattle.promise_laws.proofs.proper_entries.settled_entries_are_proper.Goals as goal

pub returns : goal.returns
returns c = settled-proper
