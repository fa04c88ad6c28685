use Rattle.std.proofs.Common.{◌≡◌, ◌-◌, ◌*◌, ◌^◌, ◌≤ℤ◌, pos, neg_ℤ, ◌+ℤ◌}
use Rattle.two_silos.specs.Summaries.{sum_from}
use Rattle.two_silos.proofs.summary.total.Given as goal

abbrev pub invariant-loop-key : goal.invariant-loop-key
invariant-loop-key l = (l.sum ≤ℤ pos (l.key * 2 ^ 63)) × (neg_ℤ (pos (l.key * 2 ^ 63)) ≤ℤ l.sum) × (l.sum +ℤ sum_from l.world l.key (64 - l.key) ≡ sum_from l.world 0 64)
