use Rattle.host_trait.proofs.Moments.{arrives_once, arrives_then}
use Rattle.host_trait.proofs.Runs.{arrives_asked}
use Rattle.promise_laws.proofs.steps.clocks_arrive.Goals as goal

pub returns-clause-call : goal.returns-clause-call
returns-clause-call c = arrives_once

pub returns-clause-both : goal.returns-clause-both
returns-clause-both c = arrives_then

pub returns-clause-asked : goal.returns-clause-asked
returns-clause-asked c = arrives_asked
