use Rattle.promise_laws.proofs.KeptRuns.{whole_lasts, doubt_lasts}
use Rattle.promise_laws.proofs.whole_folders.kept_journals_last.Goals as goal

pub returns-clause-whole : goal.returns-clause-whole
returns-clause-whole c p r course mid said unsaid behind = whole_lasts p r course mid behind said unsaid

pub returns-clause-doubt : goal.returns-clause-doubt
returns-clause-doubt c p r course mid said unsaid batch last begins behind = doubt_lasts p r course mid behind said unsaid batch last begins
