use Rattle.std.proofs.Common.{◌≡◌, ◌≤◌, drop, length, map}
use Rattle.core_model.specs.CoreState.{Write}
use Rattle.open_batch.specs.Members.{with_grains}
use Rattle.open_batch.proofs.plan.add_writes.Given as goal

abbrev pub invariant-loop-at : goal.invariant-loop-at
invariant-loop-at l = record {
  grown : l.plan.items ≡ with_grains (map (λ (x : Write). x.0) (drop l.at l.writes)) l.fn.plan.items;
  within : l.at ≤ length l.writes;
}

abbrev pub decreases-loop-at : goal.decreases-loop-at
decreases-loop-at l = l.at
