use Rattle.turn_rules.proofs.WaitOrder.{without-mover}
use Rattle.turn_rules.proofs.Settlers.{never-halted}
use Rattle.turn_rules.proofs.run_ends.without_a_mover_all_is_settled.Goals as goal

pub returns-clause-all : goal.returns-clause-all
returns-clause-all c = without-mover

pub returns-clause-unstopped : goal.returns-clause-unstopped
returns-clause-unstopped c = never-halted
