use Rattle.promise_laws.proofs.WindowSeams.{units-on, few-lines, turns-on, plain-test}
use Rattle.promise_laws.proofs.windows.windows_go_on.Goals as goal

pub returns-clause-units : goal.returns-clause-units
returns-clause-units c = units-on

pub returns-clause-few : goal.returns-clause-few
returns-clause-few c = few-lines

pub returns-clause-turns : goal.returns-clause-turns
returns-clause-turns c = turns-on

pub returns-clause-plain : goal.returns-clause-plain
returns-clause-plain c = plain-test
