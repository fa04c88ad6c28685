use Rattle.promise_examples.proofs.WrongAnswers.{another_program, no_program, made_again, checked_refused, another_fault, no_silo_already, taken_back}
use Rattle.promise_examples.proofs.wrong_runs.inits_make_their_input.Goals as goal

pub returns-clause-program : goal.returns-clause-program
returns-clause-program c = λ r image makes. another_program r makes image

pub returns-clause-text : goal.returns-clause-text
returns-clause-text c = λ r fault makes. no_program r makes fault

pub returns-clause-again : goal.returns-clause-again
returns-clause-again c = λ r slot makes done low silo. made_again r makes slot done low silo

pub returns-clause-refused : goal.returns-clause-refused
returns-clause-refused c = λ r p fault makes. checked_refused r makes p fault

pub returns-clause-fault : goal.returns-clause-fault
returns-clause-fault c = λ r fault other makes. another_fault r makes fault other

pub returns-clause-empty : goal.returns-clause-empty
returns-clause-empty c = no_silo_already

pub returns-clause-taken : goal.returns-clause-taken
returns-clause-taken c = λ r image slot makes is left low some other. taken_back r makes image slot is left low some other
