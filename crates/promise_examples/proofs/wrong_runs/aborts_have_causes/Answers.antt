use Rattle.promise_examples.proofs.WrongRuns.{no_refusal, blamed_alive}
use Rattle.promise_examples.proofs.wrong_runs.aborts_have_causes.Goals as goal

pub returns-clause-lock : goal.returns-clause-lock
returns-clause-lock c = no_refusal

pub returns-clause-dead : goal.returns-clause-dead
returns-clause-dead c = blamed_alive
