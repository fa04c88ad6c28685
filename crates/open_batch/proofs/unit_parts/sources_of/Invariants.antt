use Rattle.std.proofs.Common.{◌≡◌, take}
use Rattle.open_batch.specs.Members.{sources_of}
use Rattle.open_batch.proofs.unit_parts.sources_of.Given as goal

abbrev pub invariant-loop-member : goal.invariant-loop-member
invariant-loop-member l = l.sources.items ≡ sources_of (take l.member-index l.members)
