use Rattle.core_laws.proofs.Consistency.{consistent-ends}
use Rattle.core_laws.proofs.UnitPlays.{valid-ends}
use Rattle.core_laws.proofs.PlainPlays.{plain-ends}
use Rattle.core_laws.proofs.laws.core_is_consistent.Goals as goal

pub returns : goal.returns
returns c = record {
  facts = λ plays r l. consistent-ends plays r l;
  effects = λ plays r p. valid-ends plays r p;
  plain = λ plays r p. plain-ends plays r p;
}
