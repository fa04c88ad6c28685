use Rattle.std.proofs.Common.{◌≡◌, ◌-◌}
use Rattle.two_silos.specs.World.{begin}
use Rattle.two_silos.specs.GeneratedEvents.{times, round, bank}
use Rattle.two_silos.proofs.summary.check.Given as goal

abbrev pub invariant-loop : goal.invariant-loop
invariant-loop l = times (l.starts - l.counter) round l.course ≡ times l.starts round (record { number = l.seed; world = begin bank })
