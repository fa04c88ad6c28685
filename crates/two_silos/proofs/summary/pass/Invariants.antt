use Rattle.std.proofs.Common.{◌≡◌, ◌-◌}
use Rattle.two_silos.specs.GeneratedEvents.{times, deliver_next}
use Rattle.two_silos.proofs.summary.pass.Given as goal

abbrev pub invariant-loop-at : goal.invariant-loop-at
invariant-loop-at l = times (l.sent - l.at) deliver_next (l.at, l.world) ≡ times (l.sent - l.from) deliver_next (l.from, l.fn.world)
