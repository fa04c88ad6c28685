use Rattle.promise_examples.proofs.Checks.{another_line, printed_early, read_input, changed_file, asked_sync, second_call, ended_otherwise, uncounted_fault}
use Rattle.promise_examples.proofs.wrong_runs.checks_tell_their_world.Goals as goal

pub returns-clause-text : goal.returns-clause-text
returns-clause-text c = another_line

pub returns-clause-early : goal.returns-clause-early
returns-clause-early c = printed_early

pub returns-clause-read : goal.returns-clause-read
returns-clause-read c = read_input

pub returns-clause-changed : goal.returns-clause-changed
returns-clause-changed c = changed_file

pub returns-clause-synced : goal.returns-clause-synced
returns-clause-synced c = asked_sync

pub returns-clause-second : goal.returns-clause-second
returns-clause-second c = second_call

pub returns-clause-other : goal.returns-clause-other
returns-clause-other c = ended_otherwise

pub returns-clause-fault : goal.returns-clause-fault
returns-clause-fault c = uncounted_fault
