use Rattle.txn_agent.proofs.WishAnswers.{wishes-alone, wishes-rule}
use Rattle.txn_agent.proofs.wish_laws.a_wish_alone_keeps_the_rule.Goals as goal

pub returns-clause-rule : goal.returns-clause-rule
returns-clause-rule c = wishes-rule

pub returns-clause-alone : goal.returns-clause-alone
returns-clause-alone c = wishes-alone
