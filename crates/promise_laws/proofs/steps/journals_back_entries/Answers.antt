use Rattle.promise_laws.proofs.JournalGrowth.{backs_on}
use Rattle.promise_laws.proofs.steps.journals_back_entries.Goals as goal

pub returns : goal.returns
returns c = backs_on
