use Rattle.promise_examples.proofs.DepositRules.{one_unit_rule, one_turn_rule, two_unit_rule, two_turn_rule, two_settled, other_picks, narrow}
use Rattle.promise_examples.proofs.examples.deposits_keep_the_rules.Goals as goal

pub returns-clause-one_unit : goal.returns-clause-one_unit
returns-clause-one_unit c = one_unit_rule

pub returns-clause-one_turn : goal.returns-clause-one_turn
returns-clause-one_turn c = one_turn_rule

pub returns-clause-two_unit : goal.returns-clause-two_unit
returns-clause-two_unit c = two_unit_rule

pub returns-clause-two_turn : goal.returns-clause-two_turn
returns-clause-two_turn c = two_turn_rule

pub returns-clause-settled : goal.returns-clause-settled
returns-clause-settled c = two_settled

pub returns-clause-picks : goal.returns-clause-picks
returns-clause-picks c = other_picks

pub returns-clause-width : goal.returns-clause-width
returns-clause-width c = narrow
