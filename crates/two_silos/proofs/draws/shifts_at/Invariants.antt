use Rattle.std.proofs.Common.{◌≡◌, ◌++◌, drop}
use Rattle.two_silos.specs.GeneratedEvents.{shifts_at}
use Rattle.two_silos.proofs.draws.shifts_at.Given as goal

abbrev pub invariant-loop-shift : goal.invariant-loop-shift
invariant-loop-shift l = l.made.items ++ shifts_at l.node (drop l.shift-index l.shifts) ≡ shifts_at l.node l.shifts
