use Rattle.std.proofs.Common.{◌≡◌, ◌++◌, drop}
use Rattle.log_reading.specs.Versions.{latest_of}
use Rattle.log_reading.proofs.latest.keep_latest.Given as goal

abbrev pub invariant-loop-one : goal.invariant-loop-one
invariant-loop-one l = record {
  behind : l.behind ≡ l.one-index;
  kept : l.kept ++ latest_of (drop l.one-index l.named) ≡ latest_of l.named;
}
