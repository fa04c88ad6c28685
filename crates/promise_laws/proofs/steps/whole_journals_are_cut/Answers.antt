use Rattle.promise_laws.proofs.JournalSteps.{whole_cut, doubt_cut}
use Rattle.promise_laws.proofs.steps.whole_journals_are_cut.Goals as goal

pub returns-clause-journal : goal.returns-clause-journal
returns-clause-journal c j now at = whole_cut j.live j.program j.opening j.old j.said j.unsaid now at

pub returns-clause-doubt : goal.returns-clause-doubt
returns-clause-doubt c j batch now at = doubt_cut j.live j.program j.opening j.old j.said j.unsaid batch now at
