use Rattle.promise_spec.proofs.ReadSessions.{greatest_read, greatest_small, each_read}
use Rattle.promise_spec.proofs.laws.sessions_are_read.Goals as goal

pub returns-clause-greatest : goal.returns-clause-greatest
returns-clause-greatest c = greatest_read

pub returns-clause-small : goal.returns-clause-small
returns-clause-small c = greatest_small

pub returns-clause-each : goal.returns-clause-each
returns-clause-each c = each_read
