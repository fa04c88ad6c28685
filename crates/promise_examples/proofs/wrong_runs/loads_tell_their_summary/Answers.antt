use Rattle.promise_examples.proofs.Load.{another_summary, told_early, done_in_doubt, fault_in_doubt, told_too_soon}
use Rattle.promise_examples.proofs.wrong_runs.loads_tell_their_summary.Goals as goal

pub returns-clause-text : goal.returns-clause-text
returns-clause-text c = another_summary

pub returns-clause-early : goal.returns-clause-early
returns-clause-early c = told_early

pub returns-clause-doubt : goal.returns-clause-doubt
returns-clause-doubt c = done_in_doubt

pub returns-clause-fault : goal.returns-clause-fault
returns-clause-fault c = fault_in_doubt

pub returns-clause-soon : goal.returns-clause-soon
returns-clause-soon c = told_too_soon
