use Rattle.core_laws.proofs.Ends.{serial-ends, serial-chosen-ends}
use Rattle.core_laws.proofs.laws.committed_are_serial.Goals as goal

pub returns : goal.returns
returns c = record {
  committed = λ plays r l. serial-ends plays r l;
  chosen = λ plays r l. serial-chosen-ends plays r l;
}
