use Rattle.run_books.proofs.BooksVersions.{load-true}
use Rattle.std.proofs.Common.{refl}
use Rattle.run_books.proofs.laws.loads_by_places_are_true.Goals as goal

pub returns : goal.returns
returns c = λ o b s g above kept. load-true o b s.run s.settler.writer s.world.disk g above kept.booked (kept.versions refl)
