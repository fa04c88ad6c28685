use Rattle.std.proofs.Common.{◌≡◌, take}
use Rattle.core_model.specs.Tests.{is_good}
use Rattle.unit_table.specs.Table.{verdict_in}
use Rattle.open_batch.specs.Members.{to_commit_by}
use Rattle.open_batch.proofs.outcomes.to_commit_of.Given as goal

abbrev pub invariant-loop-member : goal.invariant-loop-member
invariant-loop-member l = l.effects ≡ to_commit_by (λ u. is_good (verdict_in l.units u)) (take l.member-index l.members)
