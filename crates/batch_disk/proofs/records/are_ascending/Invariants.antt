use Rattle.std.proofs.Common.{None, drop}
use Rattle.commit_log.specs.Orders.{IsAscending}
use Rattle.batch_disk.proofs.records.are_ascending.Given as goal

abbrev pub invariant-loop-write : goal.invariant-loop-write
invariant-loop-write l = record {
  rest : IsAscending l.last (drop l.write-index l.writes) → IsAscending None l.writes;
  front : IsAscending None l.writes → IsAscending l.last (drop l.write-index l.writes);
}
