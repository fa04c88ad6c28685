use Rattle.promise_examples.proofs.WrittenInit.{opening_at, halted_makes, halted_hosted, halted_open, halted_shut, serves_init}
use Rattle.promise_examples.proofs.examples.a_failed_init_is_written_out.Goals as goal

pub returns-clause-hosted : goal.returns-clause-hosted
returns-clause-hosted c = halted_hosted

pub returns-clause-made : goal.returns-clause-made
returns-clause-made c = halted_makes

pub returns-clause-rose : goal.returns-clause-rose
returns-clause-rose c = halted_makes.risen

pub returns-clause-images : goal.returns-clause-images
returns-clause-images c = opening_at

pub returns-clause-opened : goal.returns-clause-opened
returns-clause-opened c = halted_open

pub returns-clause-shut : goal.returns-clause-shut
returns-clause-shut c = halted_shut

pub returns-clause-served : goal.returns-clause-served
returns-clause-served c = serves_init _ halted_makes
