use Rattle.promise_examples.proofs.DepositRules.{logged_load, other_load, own_load, not_locked, then_locked, not_brought}
use Rattle.promise_examples.proofs.examples.grains_are_brought_so.Goals as goal

pub returns-clause-logged : goal.returns-clause-logged
returns-clause-logged c = logged_load

pub returns-clause-other : goal.returns-clause-other
returns-clause-other c = other_load

pub returns-clause-own : goal.returns-clause-own
returns-clause-own c = own_load

pub returns-clause-locked : goal.returns-clause-locked
returns-clause-locked c = not_locked

pub returns-clause-had : goal.returns-clause-had
returns-clause-had c = then_locked

pub returns-clause-unwished : goal.returns-clause-unwished
returns-clause-unwished c = not_brought
