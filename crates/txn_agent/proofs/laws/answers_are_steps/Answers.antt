use Rattle.txn_agent.proofs.ComposedSteps.{happened-acts}
use Rattle.txn_agent.proofs.laws.answers_are_steps.Goals as goal

pub returns : goal.returns
returns c = happened-acts
