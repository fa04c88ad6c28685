use Rattle.two_silos.specs.World.{begin}
use Rattle.two_silos.proofs.LaterWorlds.{given-once}
use Rattle.two_silos.proofs.laws.numbers_are_given_once.Goals as goal

pub returns : goal.returns
returns c = λ openings es. given-once es (begin openings)
