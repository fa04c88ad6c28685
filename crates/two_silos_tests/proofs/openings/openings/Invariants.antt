use Rattle.std.proofs.Common.{◌≡◌, length}
use Rattle.two_silos.specs.World.{IsOpening}
use Rattle.two_silos_tests.proofs.openings.openings.Given as goal

abbrev pub invariant-loop : goal.invariant-loop
invariant-loop l = (length l.made.items ≡ l.counter) × IsOpening l.made.items
