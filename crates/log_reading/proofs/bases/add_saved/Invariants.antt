use Rattle.std.proofs.Common.{◌≡◌, ◌++◌, fold, drop}
use Rattle.commit_log.specs.Orders.{grain_after}
use Rattle.log_reading.proofs.bases.add_saved.Given as goal

abbrev pub invariant-loop-written : goal.invariant-loop-written
invariant-loop-written l = record {
  saved : l.saved ++ drop l.written-index l.writes ≡ l.fn.saved ++ l.writes;
  grain : fold grain_after l.grain (drop l.written-index l.writes) ≡ fold grain_after l.fn.last l.writes;
}
