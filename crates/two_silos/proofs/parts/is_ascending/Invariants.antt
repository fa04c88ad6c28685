use Rattle.std.proofs.Common.{◌≡◌, drop}
use Rattle.silo_nodes.specs.Packets.{is_ascending}
use Rattle.two_silos.specs.Links.{ascends_from}
use Rattle.two_silos.proofs.parts.is_ascending.Given as goal

abbrev pub invariant-loop-shift : goal.invariant-loop-shift
invariant-loop-shift l = ascends_from l.previous (drop l.shift-index l.shifts) ≡ is_ascending l.shifts
