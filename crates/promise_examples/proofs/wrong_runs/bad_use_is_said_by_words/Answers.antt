use Rattle.promise_examples.proofs.WrongAnswers.{understood_bad, answered_otherwise, risen_for_none, fault_uncounted, input_passed, output_passed, made_though, other_named}
use Rattle.promise_examples.proofs.wrong_runs.bad_use_is_said_by_words.Goals as goal

pub returns-clause-said : goal.returns-clause-said
returns-clause-said c = understood_bad

pub returns-clause-other : goal.returns-clause-other
returns-clause-other c = answered_otherwise

pub returns-clause-used : goal.returns-clause-used
returns-clause-used c = risen_for_none

pub returns-clause-fault : goal.returns-clause-fault
returns-clause-fault c = fault_uncounted

pub returns-clause-input : goal.returns-clause-input
returns-clause-input c = input_passed

pub returns-clause-output : goal.returns-clause-output
returns-clause-output c = output_passed

pub returns-clause-made : goal.returns-clause-made
returns-clause-made c = made_though

pub returns-clause-named : goal.returns-clause-named
returns-clause-named c = other_named
