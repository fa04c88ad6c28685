use Rattle.promise_examples.proofs.WrongRuns.{written_unvoted, twice_anywhere, no_refusal_anywhere}
use Rattle.promise_examples.proofs.wrong_runs.any_folder_is_served_truly.Goals as goal

pub returns-clause-unvoted : goal.returns-clause-unvoted
returns-clause-unvoted c = written_unvoted

pub returns-clause-twice : goal.returns-clause-twice
returns-clause-twice c = twice_anywhere

pub returns-clause-lock : goal.returns-clause-lock
returns-clause-lock c = no_refusal_anywhere
