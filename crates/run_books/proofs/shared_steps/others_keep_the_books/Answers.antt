use Rattle.run_books.proofs.BooksShared.{others-keep-books}
use Rattle.run_books.proofs.shared_steps.others_keep_the_books.Goals as goal

pub returns : goal.returns
returns c = others-keep-books
