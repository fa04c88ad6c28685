use Rattle.core_laws.proofs.WithoutLimit.{loads-without-limit}
use Rattle.core_laws.proofs.laws.runs_without_limit_are_legal.Goals as goal

pub returns : goal.returns
returns c = record {
  loads = λ r limit. loads-without-limit r limit;
  legal = λ plays r above limit effects. record { above = above; effects = effects; loads = loads-without-limit r limit };
}
