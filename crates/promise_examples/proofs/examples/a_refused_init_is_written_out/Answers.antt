use Rattle.promise_examples.proofs.WrittenInit.{unmade_makes, unmade_hosted, serves_init}
use Rattle.promise_examples.proofs.BadTexts.{cut_is_no_program}
use Rattle.promise_examples.proofs.examples.a_refused_init_is_written_out.Goals as goal

pub returns-clause-fault : goal.returns-clause-fault
returns-clause-fault c = cut_is_no_program

pub returns-clause-hosted : goal.returns-clause-hosted
returns-clause-hosted c = unmade_hosted

pub returns-clause-made : goal.returns-clause-made
returns-clause-made c = unmade_makes

pub returns-clause-served : goal.returns-clause-served
returns-clause-served c = serves_init _ unmade_makes
