use Rattle.core_laws.proofs.LoadlessRuns.{children-ends, answers-ends}
use Rattle.core_laws.proofs.laws.children_answer.Goals as goal

pub returns : goal.returns
returns c = record {
  known = λ r above. children-ends r above;
  answers = λ r above. answers-ends r above;
}
