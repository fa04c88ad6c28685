use Rattle.txn_agent.proofs.WishAnswers.{knows-wishes}
use Rattle.txn_agent.proofs.wish_laws.a_wish_leaves_an_agent.Goals as goal

pub returns : goal.returns
returns c = λ may types a other s t l apart n k. knows-wishes may types a.carried a.doing other s t l apart n k
