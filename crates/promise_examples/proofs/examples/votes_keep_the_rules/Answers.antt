use Rattle.promise_examples.proofs.DepositRules.{vote_unit_rule, vote_turn_rule, vote_settled}
use Rattle.promise_examples.proofs.examples.votes_keep_the_rules.Goals as goal

pub returns-clause-unit : goal.returns-clause-unit
returns-clause-unit c = vote_unit_rule

pub returns-clause-turn : goal.returns-clause-turn
returns-clause-turn c = vote_turn_rule

pub returns-clause-settled : goal.returns-clause-settled
returns-clause-settled c = vote_settled
