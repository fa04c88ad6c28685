use Rattle.promise_examples.proofs.WrongRuns.{no_such_line, not_asked, another_call}
use Rattle.promise_examples.proofs.wrong_runs.records_come_from_lines.Goals as goal

pub returns-clause-line : goal.returns-clause-line
returns-clause-line c = no_such_line

pub returns-clause-child : goal.returns-clause-child
returns-clause-child c = not_asked

pub returns-clause-call : goal.returns-clause-call
returns-clause-call c = another_call
