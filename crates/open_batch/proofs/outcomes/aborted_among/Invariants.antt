use Rattle.std.proofs.Common.{◌≡◌, ◌≤◌, drop, filter, length}
use Rattle.core_model.specs.Tests.{is_aborted}
use Rattle.core_model.specs.Answers.{as_set}
use Rattle.unit_table.specs.Table.{verdict_in}
use Rattle.open_batch.proofs.outcomes.aborted_among.Given as goal

abbrev pub invariant-loop-at : goal.invariant-loop-at
invariant-loop-at l = record {
  grown : l.set.sources ≡ as_set (filter (λ u. is_aborted (verdict_in l.units u)) (drop l.at l.sources));
  within : l.at ≤ length l.sources;
}

abbrev pub decreases-loop-at : goal.decreases-loop-at
decreases-loop-at l = l.at
