use Rattle.txn_agent.proofs.WishAnswers.{says-wishes, wishes-began, wishes-counts}
use Rattle.txn_agent.proofs.wish_laws.wishes_are_counted.Goals as goal

pub returns-clause-wishes : goal.returns-clause-wishes
returns-clause-wishes c = says-wishes

pub returns-clause-counts : goal.returns-clause-counts
returns-clause-counts c = wishes-counts

pub returns-clause-began : goal.returns-clause-began
returns-clause-began c = wishes-began
