use Rattle.std.proofs.Common.{◌≡◌, ◌≤◌, drop, length}
use Rattle.core_model.specs.Tests.{is_bad}
use Rattle.unit_table.specs.Table.{verdict_in}
use Rattle.open_batch.specs.Members.{plan_of}
use Rattle.open_batch.proofs.plan.plan_of.Given as goal

abbrev pub invariant-loop-at : goal.invariant-loop-at
invariant-loop-at l = record {
  grown : l.plan.items ≡ plan_of (λ u. is_bad (verdict_in l.units u)) (drop l.at l.members);
  within : l.at ≤ length l.members;
}

abbrev pub decreases-loop-at : goal.decreases-loop-at
decreases-loop-at l = l.at
