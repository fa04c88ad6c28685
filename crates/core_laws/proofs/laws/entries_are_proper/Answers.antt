use Rattle.core_laws.proofs.Proper.{has-unit-ends, words-ends, proper-ends}
use Rattle.core_laws.proofs.laws.entries_are_proper.Goals as goal

pub returns : goal.returns
returns c = record {
  unit = λ r above x m. has-unit-ends r above x m;
  words = λ plays r above p never x m other. words-ends plays r above p never x m other;
  whole = λ plays r l never x m. proper-ends plays r l never x m;
}
