use Rattle.core_laws.proofs.Replies.{extends-ends}
use Rattle.core_laws.proofs.laws.lists_only_grow.Goals as goal

pub returns : goal.returns
returns c = λ r more. extends-ends r more
