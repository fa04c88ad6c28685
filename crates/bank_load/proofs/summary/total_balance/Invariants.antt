use Rattle.std.proofs.Common.{◌≡◌, ◌*◌, ◌^◌, ◌≤◌, ◌≤ℤ◌, pos, neg_ℤ}
use Rattle.core_model.specs.LegalRuns.{ends}
use Rattle.history_core.specs.Cores.{run_of}
use Rattle.bank_load.specs.Summaries.{total_kept}
use Rattle.bank_load.proofs.summary.total_balance.Given as goal

abbrev pub invariant-loop-key : goal.invariant-loop-key
invariant-loop-key l = (l.total ≤ℤ pos (l.key * 2 ^ 63)) × (neg_ℤ (pos (l.key * 2 ^ 63)) ≤ℤ l.total) × (l.total ≡ total_kept (ends (run_of l.core)) l.key) × (l.key ≤ 64)
