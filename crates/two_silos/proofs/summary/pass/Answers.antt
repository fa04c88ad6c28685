use Rattle.std.proofs.Common.{◌≡◌, ◌+◌, ℕ, ap}
use Rattle.two_silos.specs.World.{World}
use Rattle.two_silos.specs.GeneratedEvents.{deliver_next}
use Rattle.two_silos.proofs.CheckLoops.{times_on}
use Rattle.two_silos.proofs.summary.pass.Goals as goal

pub loop-at-preserved : goal.loop-at-preserved
loop-at-preserved c =
    let now : ℕ × World = (c.loop-at.at, c.loop-at.world) in
    let next : ℕ × World = (c.loop-at.at + 1, c.step.new.self) in
    let here : next ≡ deliver_next now = ap (λ (v : World). (c.loop-at.at + 1, v)) c.in_ok-step.ensures.ok in
    times_on deliver_next c.packets-sent.result c.loop-at.at now next _ c.loop-at-test.true here c.loop-at.invariant
