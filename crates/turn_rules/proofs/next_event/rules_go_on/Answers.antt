use Rattle.turn_rules.proofs.Growth.{unit-grows, turn-grows, ends-more, got-event}
use Rattle.turn_rules.proofs.next_event.rules_go_on.Goals as goal

pub returns-clause-unit_rule : goal.returns-clause-unit_rule
returns-clause-unit_rule c = unit-grows

pub returns-clause-turn_rule : goal.returns-clause-turn_rule
returns-clause-turn_rule c = turn-grows

pub returns-clause-state : goal.returns-clause-state
returns-clause-state c = ends-more

pub returns-clause-got : goal.returns-clause-got
returns-clause-got c = got-event
