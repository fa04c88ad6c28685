use Rattle.core_laws.proofs.LineEntries.{once-ends}
use Rattle.core_laws.proofs.laws.lines_are_answered_once.Goals as goal

pub returns : goal.returns
returns c = λ r above. once-ends r above
