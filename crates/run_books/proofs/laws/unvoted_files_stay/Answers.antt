use Rattle.run_books.proofs.UnvotedFiles.{unvoted_behind}
use Rattle.run_books.proofs.laws.unvoted_files_stay.Goals as goal

pub returns : goal.returns
returns c = λ p seen course mid behind kept. unvoted_behind p seen course mid behind kept
