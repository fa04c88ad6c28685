use Rattle.settler_rules.proofs.Commits.{sealed-commit, others-leave}
use Rattle.settler_rules.proofs.committed_units.sealed_batches_commit.Goals as goal

pub returns : goal.returns
returns c = record {
  sealed = λ r above n a. sealed-commit r above n a;
  others = λ r above e kept. others-leave r above e kept;
}
