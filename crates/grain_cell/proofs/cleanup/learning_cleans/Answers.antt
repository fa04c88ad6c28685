use Rattle.grain_cell.proofs.Writers.{found-cleans, none-cleans}
use Rattle.grain_cell.proofs.cleanup.learning_cleans.Goals as goal

pub returns-clause-some : goal.returns-clause-some
returns-clause-some c = λ test stack unit e. found-cleans test stack unit e

pub returns-clause-none : goal.returns-clause-none
returns-clause-none c = λ test stack e. none-cleans test stack e
