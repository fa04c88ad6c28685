use Rattle.turn_rules.proofs.Turns.{turn-unit, turn-child, turn-settler}
use Rattle.turn_rules.proofs.turn_loop.turns_go_on_by_movers.Goals as goal

pub returns-clause-unit : goal.returns-clause-unit
returns-clause-unit c = turn-unit

pub returns-clause-child : goal.returns-clause-child
returns-clause-child c = turn-child

pub returns-clause-settler : goal.returns-clause-settler
returns-clause-settler c = turn-settler
