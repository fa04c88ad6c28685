use Rattle.core_history.proofs.AnyEvents.{tells-ends}
use Rattle.core_history.proofs.LegalRuns.{knows-ends}
use Rattle.core_history.proofs.laws.reads_are_granted.Goals as goal

pub returns : goal.returns
returns c = record {
  reads = λ r u. (tells-ends r).reads u;
  writes = λ r u. (tells-ends r).writes u;
  result = λ r u f. (tells-ends r).results u f;
  dependencies = λ plays r l u d. (knows-ends plays r l).depends u d;
}
