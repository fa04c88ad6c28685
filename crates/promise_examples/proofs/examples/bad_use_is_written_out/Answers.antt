use Rattle.promise_examples.proofs.WrittenInit.{other_say, serves_none, serves_other}
use Rattle.std.proofs.Common.{refl}
use Rattle.promise_examples.proofs.examples.bad_use_is_written_out.Goals as goal

pub returns-clause-hosted : goal.returns-clause-hosted
returns-clause-hosted c = refl

pub returns-clause-silent : goal.returns-clause-silent
returns-clause-silent c = other_say

pub returns-clause-served : goal.returns-clause-served
returns-clause-served c = serves_other

pub returns-clause-any : goal.returns-clause-any
returns-clause-any c = serves_none
