use Rattle.core_laws.proofs.HeldLocks.{holders-ends}
use Rattle.core_laws.proofs.KeptLocks.{keeping-ends}
use Rattle.core_laws.proofs.laws.holders_have_read.Goals as goal

pub returns : goal.returns
returns c = record {
  read = λ r above. holders-ends r above;
  keep = λ r more above. keeping-ends r more above;
}
