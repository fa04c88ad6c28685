use Rattle.txn_agent.proofs.StepPromises.{knows-looks, knows-settles, knows-steps, knows-tells}
use Rattle.txn_agent.proofs.laws.others_leave_an_agent.Goals as goal

pub returns-clause-looks : goal.returns-clause-looks
returns-clause-looks c = λ may types a s t l n k. knows-looks may types a.carried a.doing s t l n k

pub returns-clause-tells : goal.returns-clause-tells
returns-clause-tells c = λ may types a s t e r l h n k. knows-tells may types a.carried a.doing s t e r l h n k

pub returns-clause-steps : goal.returns-clause-steps
returns-clause-steps c = λ may types a other s t l h n k. knows-steps may types a.carried a.doing other s t l h n k

pub returns-clause-settles : goal.returns-clause-settles
returns-clause-settles c = λ may types a s t e r l q n k. knows-settles may types a.carried a.doing s t e r l q n k
