use Rattle.std.proofs.Common.{◌≡◌, take}
use Rattle.core_model.specs.Tests.{is_bad}
use Rattle.unit_table.specs.Table.{verdict_in}
use Rattle.open_batch.specs.Members.{versions_by}
use Rattle.open_batch.proofs.outcomes.versions_of.Given as goal

abbrev pub invariant-loop-member : goal.invariant-loop-member
invariant-loop-member l = l.versions ≡ versions_by (λ u. is_bad (verdict_in l.units u)) l.grain (take l.member-index l.members)
