use Rattle.core_laws.proofs.FurtherLaws.{dead-ends, outcome-ends, either-ends}
use Rattle.core_laws.proofs.laws.fate_is_final.Goals as goal

pub returns : goal.returns
returns c = record {
  dead = λ r more above u d. dead-ends r more above u d;
  known = λ r more above u o e. outcome-ends r more above u o e;
  either_way = λ plays r l. either-ends plays r l;
}
