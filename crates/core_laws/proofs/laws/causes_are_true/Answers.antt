use Rattle.core_laws.proofs.EntryCauses.{caused-ends}
use Rattle.core_laws.proofs.FurtherLaws.{removed-ends}
use Rattle.core_laws.proofs.laws.causes_are_true.Goals as goal

pub returns : goal.returns
returns c = record {
  caused = λ plays r l x m. caused-ends plays r l x m;
  gone = λ plays r l. removed-ends plays r l;
}
