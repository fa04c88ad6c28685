use Rattle.core_laws.proofs.LoadlessRuns.{longest-ends, no-lock-ends}
use Rattle.core_laws.proofs.laws.batches_are_longest.Goals as goal

pub returns : goal.returns
returns c = record {
  longest = λ r above. longest-ends r above;
  no_lock = λ r above. no-lock-ends r above;
}
