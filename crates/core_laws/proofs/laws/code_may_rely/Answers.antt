use Rattle.core_laws.proofs.LoadlessLaws.{holds-ends}
use Rattle.core_laws.proofs.laws.code_may_rely.Goals as goal

pub returns : goal.returns
returns c = λ r above. holds-ends r above
