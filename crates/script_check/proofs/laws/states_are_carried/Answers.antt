use Rattle.script_check.proofs.CarriedFields.{count, only, same, again}
use Rattle.script_check.proofs.laws.states_are_carried.Goals as goal

pub returns-clause-count : goal.returns-clause-count
returns-clause-count c = count

pub returns-clause-only : goal.returns-clause-only
returns-clause-only c = only

pub returns-clause-same : goal.returns-clause-same
returns-clause-same c = same

pub returns-clause-again : goal.returns-clause-again
returns-clause-again c = again
