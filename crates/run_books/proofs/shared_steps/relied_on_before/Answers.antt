use Rattle.run_books.proofs.Reliance.{relies-before, going-before, counts-on}
use Rattle.run_books.proofs.shared_steps.relied_on_before.Goals as goal

pub returns-clause-before : goal.returns-clause-before
returns-clause-before c = λ o s t on counts rely. relies-before s t on o counts rely

pub returns-clause-going : goal.returns-clause-going
returns-clause-going c = λ s t on going. going-before s t on going

pub returns-clause-counts : goal.returns-clause-counts
returns-clause-counts c = λ s t on counts. counts-on s t on counts
