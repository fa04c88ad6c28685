use Rattle.std.proofs.Common.{◌≡◌, ◌++◌, ◌^◌, ◌<◌, drop}
use Rattle.std.specs.List.{AllByRecursion}
use Rattle.log_reading.specs.Sums.{named_of_records, next_after}
use Rattle.log_reading.proofs.entries.add_records.Given as goal

abbrev pub invariant-loop-entry : goal.invariant-loop-entry
invariant-loop-entry l = record {
  named : l.named ++ named_of_records l.program (drop l.entry-index l.records) ≡ l.fn.named ++ named_of_records l.program l.records;
  next : next_after l.after (drop l.entry-index l.records) ≡ next_after l.next l.records;
  low : AllByRecursion (λ r. r.unit.0 < 2 ^ 63) (drop l.entry-index l.records);
}
