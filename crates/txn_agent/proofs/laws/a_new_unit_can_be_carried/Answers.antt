use Rattle.txn_agent.proofs.StepPromises.{new-began, new-carried}
use Rattle.txn_agent.proofs.laws.a_new_unit_can_be_carried.Goals as goal

pub returns-clause-began : goal.returns-clause-began
returns-clause-began c = new-began

pub returns-clause-new : goal.returns-clause-new
returns-clause-new c = new-carried
