use Rattle.run_books.proofs.BooksShared.{shared-keep}
use Rattle.run_books.proofs.shared_steps.shared_steps_keep_the_books.Goals as goal

pub returns : goal.returns
returns g c = λ may o b shape s t before after old new result can rely going even k turns.
    shared-keep _ _ g.H.Host.tells g.H.Host.world g.H.Host.faults may o b shape s t before after old new result can rely going even k turns
