use Rattle.worker_rules.proofs.Closes.{closed-promise, closed-rule}
use Rattle.worker_rules.proofs.closed_core.a_closed_core_keeps_the_unit_rule.Goals as goal

pub returns-clause-promises : goal.returns-clause-promises
returns-clause-promises c = λ b first last h. closed-promise b first last h

pub returns-clause-rule : goal.returns-clause-rule
returns-clause-rule c = λ b first last h above rule. closed-rule b first last h above rule
