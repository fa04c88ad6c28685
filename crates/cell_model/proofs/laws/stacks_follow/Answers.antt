use Rattle.cell_model.proofs.Stacks.{stack-follows}
use Rattle.cell_model.proofs.laws.stacks_follow.Goals as goal

pub returns : goal.returns
returns c = λ unit stack. stack-follows unit stack
