use Rattle.std.proofs.Common.{◌≡◌, ◌≤◌, drop, length}
use Rattle.core_model.specs.Tests.{failed_in}
use Rattle.open_batch.proofs.decisions.failed_in.Given as goal

abbrev pub invariant-loop-at : goal.invariant-loop-at
invariant-loop-at l = record {
  found : l.found ≡ failed_in l.votes (drop l.at l.writes);
  within : l.at ≤ length l.writes;
}

abbrev pub decreases-loop-at : goal.decreases-loop-at
decreases-loop-at l = l.at
