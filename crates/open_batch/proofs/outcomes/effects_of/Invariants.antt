use Rattle.std.proofs.Common.{◌≡◌, take, map}
use Rattle.open_batch.specs.Members.{effect_in}
use Rattle.open_batch.proofs.outcomes.effects_of.Given as goal

abbrev pub invariant-loop-member : goal.invariant-loop-member
invariant-loop-member l = l.effects ≡ map effect_in (take l.member-index l.members)
