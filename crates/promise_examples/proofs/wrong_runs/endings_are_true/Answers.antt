use Rattle.promise_examples.proofs.WrongRuns.{grain_fault, other_slot, grain_in_doubt, manager_without_doubt, done_in_doubt}
use Rattle.promise_examples.proofs.WrongAnswers.{not_opened, read_unopened}
use Rattle.promise_examples.proofs.wrong_runs.endings_are_true.Goals as goal

pub returns-clause-grain : goal.returns-clause-grain
returns-clause-grain c = grain_fault

pub returns-clause-slot : goal.returns-clause-slot
returns-clause-slot c = other_slot

pub returns-clause-in_doubt : goal.returns-clause-in_doubt
returns-clause-in_doubt c = grain_in_doubt

pub returns-clause-manager : goal.returns-clause-manager
returns-clause-manager c = manager_without_doubt

pub returns-clause-doubt : goal.returns-clause-doubt
returns-clause-doubt c = done_in_doubt

pub returns-clause-unopened : goal.returns-clause-unopened
returns-clause-unopened c = not_opened

pub returns-clause-read : goal.returns-clause-read
returns-clause-read c = read_unopened
