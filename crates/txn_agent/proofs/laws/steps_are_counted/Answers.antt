use Rattle.txn_agent.proofs.ComposedSteps.{acts-counts}
use Rattle.txn_agent.proofs.StepPromises.{acts-began}
use Rattle.txn_agent.proofs.laws.steps_are_counted.Goals as goal

pub returns-clause-counts : goal.returns-clause-counts
returns-clause-counts c = acts-counts

pub returns-clause-began : goal.returns-clause-began
returns-clause-began c = acts-began
