use Rattle.std.proofs.Common.{◌≡◌, take, map}
use Rattle.open_batch.specs.Members.{unprepared}
use Rattle.open_batch.proofs.unit_parts.prepared_of.Given as goal

abbrev pub invariant-loop-member : goal.invariant-loop-member
invariant-loop-member l = l.prepared.items ≡ map unprepared (take l.member-index l.members)
