use Rattle.std.proofs.Common.{◌≡◌, ℕ}
use Rattle.two_silos.specs.World.{World}
use Rattle.two_silos.specs.GeneratedEvents.{pass}
use Rattle.two_silos.proofs.CheckLoops.{times_on}
use Rattle.two_silos.proofs.summary.finish.Goals as goal

pub loop-preserved : goal.loop-preserved
loop-preserved c =
    let now : ℕ × World = (c.loop.from, c.loop.world) in
    let next : ℕ × World = (c.in_ok-from.from, c.pass.new.world) in
    let here : next ≡ pass now = c.in_ok-from.ensures in
    times_on pass 4 c.loop.counter now next _ c.loop-test.true here c.loop.invariant
