use Rattle.txn_agent.proofs.StepPromises.{acts-alone, acts-rule}
use Rattle.txn_agent.proofs.laws.a_step_alone_keeps_the_rule.Goals as goal

pub returns-clause-rule : goal.returns-clause-rule
returns-clause-rule c = acts-rule

pub returns-clause-alone : goal.returns-clause-alone
returns-clause-alone c = acts-alone
