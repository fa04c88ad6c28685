use Rattle.cell_model.proofs.LockAnswers.{locks-follow}
use Rattle.cell_model.proofs.laws.locks_follow.Goals as goal

pub returns : goal.returns
returns c = λ holds unit mode. locks-follow holds unit mode
