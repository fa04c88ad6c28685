use Rattle.promise_examples.proofs.WrittenInit.{init_makes, as_written, sound_after, is_hosted, serves_init}
use Rattle.promise_examples.proofs.examples.an_init_is_written_out.Goals as goal

pub returns-clause-hosted : goal.returns-clause-hosted
returns-clause-hosted c = is_hosted

pub returns-clause-made : goal.returns-clause-made
returns-clause-made c = init_makes

pub returns-clause-sound : goal.returns-clause-sound
returns-clause-sound c = sound_after

pub returns-clause-follows : goal.returns-clause-follows
returns-clause-follows c = as_written

pub returns-clause-served : goal.returns-clause-served
returns-clause-served c = serves_init _ init_makes
