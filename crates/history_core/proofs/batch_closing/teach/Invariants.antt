use Rattle.std.proofs.Common.{◌≡◌, ◌≤◌, ◌+◌, ◌++◌, drop, length}
use Rattle.history_core.specs.ClosedUnits.{grains_with}
use Rattle.history_core.proofs.batch_closing.teach.Given as goal

abbrev pub invariant-loop-write : goal.invariant-loop-write
invariant-loop-write l = record {
  pairs : l.learn.pairs ++ grains_with l.unit (drop l.write-index l.writes) ≡ l.initial.learn.pairs ++ grains_with l.unit l.writes;
  room : length (drop l.write-index l.writes) ≤ l.learn.spare;
  spare : l.initial.learn.spare + length (drop l.write-index l.writes) ≤ l.learn.spare + length l.writes;
}
