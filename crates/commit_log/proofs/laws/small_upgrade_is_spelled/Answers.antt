use Rattle.std.proofs.Common.{refl}
use Rattle.commit_log.proofs.laws.small_upgrade_is_spelled.Goals as goal

pub returns : goal.returns
returns c = refl
