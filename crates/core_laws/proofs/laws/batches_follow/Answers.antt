use Rattle.core_laws.proofs.Votes.{follows-ends}
use Rattle.core_laws.proofs.laws.batches_follow.Goals as goal

pub returns : goal.returns
returns c = λ plays r l. follows-ends plays r l
