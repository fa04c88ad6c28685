use Rattle.txn_agent.proofs.WishAnswers.{alone-rests, alone-wishes}
use Rattle.txn_agent.proofs.wish_laws.a_wish_alone_goes_on.Goals as goal

pub returns-clause-wishes : goal.returns-clause-wishes
returns-clause-wishes c = alone-wishes

pub returns-clause-rests : goal.returns-clause-rests
returns-clause-rests c = alone-rests
