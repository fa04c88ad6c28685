-- Which records have a spelling. The types keep the other limits by themselves.
use Rattle.std.specs.Prelude.{◌≤◌, length, None}
use Rattle.base_types.specs.declared.calls.Outcome as outcome
use Rattle.commit_log.specs.declared.records.CommitRecord.{CommitRecord}
use Rattle.commit_log.specs.Orders.{IsAscending}

-- the outcome is a value or a fault
abbrev pub IsNoAbort : outcome.Outcome → Type 0
IsNoAbort outcome.TheVariants.Aborted = ⊥
IsNoAbort (outcome.TheVariants.Value value) = Unit {0}
IsNoAbort (outcome.TheVariants.Fault text) = Unit {0}

-- at most 8 arguments, 64 answers and 64 writes, a result that is no abort, and the writes in ascending grain order
pub record MaySpell (r : CommitRecord) : Type 0 where
  pub args : length r.call.args ≤ 8
  pub answers : length r.answers ≤ 64
  pub result : IsNoAbort r.result
  pub writes : length r.writes ≤ 64
  pub order : IsAscending None r.writes
