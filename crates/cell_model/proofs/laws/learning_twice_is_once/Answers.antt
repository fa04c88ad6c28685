use Rattle.cell_model.proofs.Stacks.{learned-twice}
use Rattle.cell_model.proofs.laws.learning_twice_is_once.Goals as goal

pub returns : goal.returns
returns c = λ cell unit commits. learned-twice cell unit commits
