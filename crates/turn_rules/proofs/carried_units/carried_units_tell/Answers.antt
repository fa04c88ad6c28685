use Rattle.turn_rules.proofs.Movers.{movers-kept, flying-kept, begins-kept}
use Rattle.turn_rules.proofs.carried_units.carried_units_tell.Goals as goal

pub returns-clause-movers : goal.returns-clause-movers
returns-clause-movers c = movers-kept

pub returns-clause-flying : goal.returns-clause-flying
returns-clause-flying c = flying-kept

pub returns-clause-begins : goal.returns-clause-begins
returns-clause-begins c = begins-kept
