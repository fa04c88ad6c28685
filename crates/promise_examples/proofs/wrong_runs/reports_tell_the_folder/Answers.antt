use Rattle.promise_examples.proofs.WrongAnswers.{another_text, other_sessions, changed_by_report, told_and_taken}
use Rattle.promise_examples.proofs.wrong_runs.reports_tell_the_folder.Goals as goal

pub returns-clause-text : goal.returns-clause-text
returns-clause-text c = another_text

pub returns-clause-sessions : goal.returns-clause-sessions
returns-clause-sessions c = other_sessions

pub returns-clause-changed : goal.returns-clause-changed
returns-clause-changed c = changed_by_report

pub returns-clause-taken : goal.returns-clause-taken
returns-clause-taken c = told_and_taken
