use Rattle.promise_laws.proofs.OpenedRuns.{shown_anywhere, anywhere_opened}
use Rattle.promise_laws.proofs.answered_runs.answered_runs_open.Goals as goal

pub returns-clause-keeps : goal.returns-clause-keeps
returns-clause-keeps c = shown_anywhere

pub returns-clause-opened : goal.returns-clause-opened
returns-clause-opened c = anywhere_opened
