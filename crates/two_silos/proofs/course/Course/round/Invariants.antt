use Rattle.std.proofs.Common.{◌≡◌, ◌-◌}
use Rattle.two_silos.specs.GeneratedEvents.{times, pick, start}
use Rattle.two_silos.proofs.course.Course.round.Given as goal

abbrev pub invariant-loop : goal.invariant-loop
invariant-loop l = times (8 - l.counter) pick l.self ≡ times 8 pick (start l.fn.self)
