use Rattle.std.proofs.Common.{ap}
use Rattle.two_silos.specs.GeneratedEvents.{times, pick}
use Rattle.two_silos.proofs.CheckLoops.{times_on, times_all}
use Rattle.two_silos.proofs.course.Course.round.Goals as goal

pub loop-init : goal.loop-init
loop-init c = ap (times 8 pick) c.in_ok-start.ensures

pub loop-preserved : goal.loop-preserved
loop-preserved c = times_on pick 8 c.loop.counter c.loop.self c.pick.new.self _ c.loop-test.true c.in_ok-pick.ensures c.loop.invariant

pub returns : goal.returns
returns c = times_all pick 8 c.loop.counter c.loop.self _ c.loop-test.false c.loop.invariant
