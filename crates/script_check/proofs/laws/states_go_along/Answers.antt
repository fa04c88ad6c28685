use Rattle.script_check.proofs.CarriedFields.{along, counts}
use Rattle.script_check.proofs.laws.states_go_along.Goals as goal

pub returns-clause-parts : goal.returns-clause-parts
returns-clause-parts c = along

pub returns-clause-counts : goal.returns-clause-counts
returns-clause-counts c = counts
