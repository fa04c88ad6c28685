use Rattle.std.proofs.Common.{◌≡◌, ◌++◌, drop}
use Rattle.two_silos.specs.World.{nodes_from}
use Rattle.two_silos.proofs.openings.nodes_of.Given as goal

abbrev pub invariant-loop-at : goal.invariant-loop-at
invariant-loop-at l = l.nodes.items ++ nodes_from l.at (drop l.at l.openings) ≡ nodes_from 0 l.openings
