use Rattle.std.proofs.Common.{◌≡◌, ◌∙◌, rules, ap, subst, OnOk, OnErr}
use Rattle.silo_nodes.specs.Coordinators.{reminders}
use Rattle.two_silos.specs.World.{World, NudgeCoordinator, step}
use Rattle.two_silos.specs.Links.{sent_on}
use Rattle.two_silos.proofs.ReachedWorlds.{reached-within, sent-step, after, on-ok, on-err}
use Rattle.two_silos.proofs.world.World.nudge_coordinator.Goals as goal

pub invariant_of-self : goal.invariant_of-self
invariant_of-self c =
    let w : World = record { coordinator = c.self.inside.coordinator; nodes = c.self.inside.nodes.items; packets = c.self.inside.packets.items } in
    let sent : c.in_ok-sent.sent ≡ reminders c.self.inside.coordinator.pending = search rules in
    let ok : OnOk c.send.result (record w { packets = c.send.new.packets.items } ≡ step w NudgeCoordinator) =
    on-ok c.send.result _ _ c.send.ensures.ok (λ e. sent-step w (reminders c.self.inside.coordinator.pending) c.send.new.packets.items (reached-within w c.self.invariant) (e ∙ ap (sent_on c.self.inside.packets.items) sent)) in
    let kept : OnErr c.send.result (record w { packets = c.send.new.packets.items } ≡ w) = on-err c.send.result _ _ c.send.ensures.kept (λ e. ap (λ l. record w { packets = l }) e) in
    after c.send.result w (record w { packets = c.send.new.packets.items }) NudgeCoordinator c.self.invariant ok kept

pub returns-clause-ok : goal.returns-clause-ok
returns-clause-ok c =
    let w : World = record { coordinator = c.self.inside.coordinator; nodes = c.self.inside.nodes.items; packets = c.self.inside.packets.items } in
    let seen : w ≡ c.args.self.now = search rules in
    let sent : c.in_ok-sent.sent ≡ reminders c.self.inside.coordinator.pending = search rules in
    let ok : OnOk c.send.result (record w { packets = c.send.new.packets.items } ≡ step w NudgeCoordinator) =
    on-ok c.send.result _ _ c.send.ensures.ok (λ e. sent-step w (reminders c.self.inside.coordinator.pending) c.send.new.packets.items (reached-within w c.self.invariant) (e ∙ ap (sent_on c.self.inside.packets.items) sent)) in
    subst (λ (v : World). OnOk c.send.result (record w { packets = c.send.new.packets.items } ≡ step v NudgeCoordinator)) seen ok
