use Rattle.promise_examples.proofs.WrongRuns.{too_many_syncs, more_anywhere, load_too_many}
use Rattle.promise_examples.proofs.WrongAnswers.{more_syncs}
use Rattle.promise_examples.proofs.wrong_runs.syncs_are_bounded.Goals as goal

pub returns-clause-run : goal.returns-clause-run
returns-clause-run c = too_many_syncs

pub returns-clause-anywhere : goal.returns-clause-anywhere
returns-clause-anywhere c = more_anywhere

pub returns-clause-load : goal.returns-clause-load
returns-clause-load c = load_too_many

pub returns-clause-unopened : goal.returns-clause-unopened
returns-clause-unopened c = more_syncs
