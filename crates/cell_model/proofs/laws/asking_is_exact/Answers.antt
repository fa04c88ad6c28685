use Rattle.cell_model.proofs.LockAnswers.{ask-exact}
use Rattle.cell_model.proofs.laws.asking_is_exact.Goals as goal

pub returns : goal.returns
returns c = λ holds unit mode. ask-exact holds unit mode
