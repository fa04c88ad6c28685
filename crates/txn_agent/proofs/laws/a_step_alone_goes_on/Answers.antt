use Rattle.txn_agent.proofs.LoneSteps.{alone-goes, alone-waits}
use Rattle.txn_agent.proofs.MoveAnswers.{alone-tells}
use Rattle.txn_agent.proofs.laws.a_step_alone_goes_on.Goals as goal

pub returns-clause-moves : goal.returns-clause-moves
returns-clause-moves c = alone-goes

pub returns-clause-tells : goal.returns-clause-tells
returns-clause-tells c = alone-tells

pub returns-clause-waits : goal.returns-clause-waits
returns-clause-waits c = alone-waits
