use Rattle.std.proofs.Common.{◌≡◌, drop}
use Rattle.std.specs.List.{list_all}
use Rattle.two_silos.specs.World.{has_grain}
use Rattle.two_silos.proofs.parts.has_grains.Given as goal

abbrev pub invariant-loop-shift : goal.invariant-loop-shift
invariant-loop-shift l = list_all (has_grain l.node) (drop l.shift-index l.shifts) ≡ list_all (has_grain l.node) l.shifts
