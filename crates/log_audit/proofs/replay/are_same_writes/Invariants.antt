use Rattle.std.proofs.Common.{◌≡◌, drop}
use Rattle.core_model.specs.Equality.{same_list}
use Rattle.log_audit.specs.Replays.{same_write}
use Rattle.log_audit.proofs.replay.are_same_writes.Given as goal

abbrev pub invariant-loop-index : goal.invariant-loop-index
invariant-loop-index l = same_list same_write (drop l.index l.ours) (drop l.index l.theirs) ≡ same_list same_write l.ours l.theirs
