use Rattle.std.proofs.Common.{◌≡◌, ◌-◌, length}
use Rattle.two_silos.specs.GeneratedEvents.{times, pass, nudge_all}
use Rattle.two_silos.proofs.summary.finish.Given as goal

abbrev pub invariant-loop : goal.invariant-loop
invariant-loop l = times (4 - l.counter) pass (l.from, l.world) ≡ times 4 pass (length l.fn.world.packets, nudge_all l.fn.world)
