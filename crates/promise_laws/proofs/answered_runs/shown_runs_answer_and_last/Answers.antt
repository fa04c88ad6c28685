use Rattle.promise_laws.proofs.OpenedRuns.{shows_both, both_show}
use Rattle.promise_laws.proofs.answered_runs.shown_runs_answer_and_last.Goals as goal

pub returns-clause-parts : goal.returns-clause-parts
returns-clause-parts c = shows_both

pub returns-clause-whole : goal.returns-clause-whole
returns-clause-whole c = both_show
