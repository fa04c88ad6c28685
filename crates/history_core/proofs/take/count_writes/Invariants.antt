use Rattle.std.proofs.Common.{◌≡◌, ◌+◌, drop}
use Rattle.history_core.specs.KeptParts.{writes_in}
use Rattle.history_core.proofs.take.count_writes.Given as goal

abbrev pub invariant-loop-member : goal.invariant-loop-member
invariant-loop-member l = l.count + writes_in (drop l.member-index l.members) ≡ writes_in l.members
