use Rattle.promise_examples.proofs.WrongAnswers.{other_answer, changed_by_none, said_bad}
use Rattle.promise_examples.proofs.wrong_runs.words_are_answered.Goals as goal

pub returns-clause-other : goal.returns-clause-other
returns-clause-other c = other_answer

pub returns-clause-changed : goal.returns-clause-changed
returns-clause-changed c = changed_by_none

pub returns-clause-said : goal.returns-clause-said
returns-clause-said c = said_bad
