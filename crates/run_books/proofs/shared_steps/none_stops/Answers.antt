use Rattle.run_books.proofs.SettlerSights.{none-stopped}
use Rattle.run_books.proofs.shared_steps.none_stops.Goals as goal

pub returns : goal.returns
returns c = λ s going alone mine. none-stopped s going alone mine
