use Rattle.commit_log.proofs.FrontsRead.{fronts_apart}
use Rattle.commit_log.proofs.laws.bodies_are_apart.Goals as goal

pub returns : goal.returns
returns c = fronts_apart
