use Rattle.worker_rules.proofs.Closes.{closed-done, quiet-done}
use Rattle.worker_rules.proofs.closed_core.all_units_are_done.Goals as goal

pub returns-clause-all : goal.returns-clause-all
returns-clause-all c = λ b first last h above rule before u born. closed-done b first last h above rule before u born

pub returns-clause-quiet : goal.returns-clause-quiet
returns-clause-quiet c = quiet-done
