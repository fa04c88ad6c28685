use Rattle.std.proofs.Common.{refl}
use Rattle.run_books.proofs.laws.recorded_loads_are_true.Goals as goal

pub returns : goal.returns
returns c = λ o b r settler seen course k. (k.kept.books.versions refl).loads
