use Rattle.std.proofs.Common.{◌≡◌, drop}
use Rattle.core_model.specs.Equality.{same_list}
use Rattle.core_parts.proofs.lists.same_items.Given as goal

abbrev pub invariant-loop-index : goal.invariant-loop-index
invariant-loop-index g l = same_list g.T.Same.same (drop l.index l.ours) (drop l.index l.theirs) ≡ same_list g.T.Same.same l.ours l.theirs
