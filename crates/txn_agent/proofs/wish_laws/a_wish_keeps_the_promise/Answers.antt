use Rattle.txn_agent.proofs.WishAnswers.{wishes-promise}
use Rattle.txn_agent.proofs.wish_laws.a_wish_keeps_the_promise.Goals as goal

pub returns : goal.returns
returns c = wishes-promise
