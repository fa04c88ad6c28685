use Rattle.core_laws.proofs.ToldOutcomes.{told-ends, lines-ends}
use Rattle.core_laws.proofs.laws.told_outcomes_are_final.Goals as goal

pub returns : goal.returns
returns c = record {
  told = λ r above. told-ends r above;
  lines = λ r above none. lines-ends r above none;
}
