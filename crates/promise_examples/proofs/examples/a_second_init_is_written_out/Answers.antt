use Rattle.promise_examples.proofs.WrittenInit.{again_makes, again_hosted, serves_init}
use Rattle.std.proofs.Common.{refl}
use Rattle.promise_examples.proofs.examples.a_second_init_is_written_out.Goals as goal

pub returns-clause-follows : goal.returns-clause-follows
returns-clause-follows c = refl

pub returns-clause-hosted : goal.returns-clause-hosted
returns-clause-hosted c = again_hosted

pub returns-clause-made : goal.returns-clause-made
returns-clause-made c = again_makes

pub returns-clause-served : goal.returns-clause-served
returns-clause-served c = serves_init _ again_makes
