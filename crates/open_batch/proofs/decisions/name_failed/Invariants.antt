use Rattle.std.proofs.Common.{◌≡◌, ◌++◌, take, drop, length}
use Rattle.open_batch.specs.Members.{named}
use Rattle.open_batch.proofs.decisions.name_failed.Given as goal

abbrev pub invariant-loop-at : goal.invariant-loop-at
invariant-loop-at l = record {
  same : take l.at l.prepared.items ++ named l.votes (drop l.at l.members) (drop l.at l.prepared.items) ≡ named l.votes l.members l.fn.prepared.items;
  len : length l.members ≡ length l.prepared.items;
}
