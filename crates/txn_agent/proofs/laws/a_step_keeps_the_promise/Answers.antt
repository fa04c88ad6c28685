use Rattle.txn_agent.proofs.StepPromises.{acts-promise}
use Rattle.txn_agent.proofs.laws.a_step_keeps_the_promise.Goals as goal

pub returns : goal.returns
returns c = acts-promise
