use Rattle.std.proofs.Common.{◌≡◌, ◌∙◌, rules, ap, subst, OnOk, OnErr, Some, slice_get}
use Rattle.silo_nodes.specs.Participants.{questions}
use Rattle.two_silos.specs.World.{World, Nudge, step}
use Rattle.two_silos.specs.Links.{sent_on}
use Rattle.two_silos.proofs.ReachedWorlds.{reached-within, nudge-step, got-back, after, on-ok, on-err}
use Rattle.two_silos.proofs.world.World.nudge.Goals as goal

pub invariant_of-self : goal.invariant_of-self
invariant_of-self c =
    let w : World = record { coordinator = c.self.inside.coordinator; nodes = c.self.inside.nodes.items; packets = c.self.inside.packets.items } in
    let found : slice_get c.self.inside.nodes.items c.args.number ≡ Some c.in-Some.node.now = subst (λ l. slice_get l c.args.number ≡ Some c.in-Some.node.now) c.deref.ensures.value (got-back c.deref.result.now c.args.number c.in-Some.node.now c.in-Some.ensures.lookup.3.0 c.in-Some.ensures.lookup.1) in
    let sent : c.in_ok-sent.sent ≡ questions c.in-Some.node.now = search rules in
    let ok : OnOk c.send.result (record w { packets = c.send.new.packets.items } ≡ step w (Nudge c.args.number)) =
    on-ok c.send.result _ _ c.send.ensures.ok (λ e. nudge-step w c.args.number c.in-Some.node.now c.send.new.packets.items (reached-within w c.self.invariant) found (e ∙ ap (sent_on c.self.inside.packets.items) sent)) in
    let kept : OnErr c.send.result (record w { packets = c.send.new.packets.items } ≡ w) = on-err c.send.result _ _ c.send.ensures.kept (λ e. ap (λ l. record w { packets = l }) e) in
    after c.send.result w (record w { packets = c.send.new.packets.items }) (Nudge c.args.number) c.self.invariant ok kept

pub returns-clause-ok : goal.returns-clause-ok
returns-clause-ok c =
    let w : World = record { coordinator = c.self.inside.coordinator; nodes = c.self.inside.nodes.items; packets = c.self.inside.packets.items } in
    let seen : w ≡ c.args.self.now = search rules in
    let found : slice_get c.self.inside.nodes.items c.args.number ≡ Some c.in-Some.node.now = subst (λ l. slice_get l c.args.number ≡ Some c.in-Some.node.now) c.deref.ensures.value (got-back c.deref.result.now c.args.number c.in-Some.node.now c.in-Some.ensures.lookup.3.0 c.in-Some.ensures.lookup.1) in
    let sent : c.in_ok-sent.sent ≡ questions c.in-Some.node.now = search rules in
    let ok : OnOk c.send.result (record w { packets = c.send.new.packets.items } ≡ step w (Nudge c.args.number)) =
    on-ok c.send.result _ _ c.send.ensures.ok (λ e. nudge-step w c.args.number c.in-Some.node.now c.send.new.packets.items (reached-within w c.self.invariant) found (e ∙ ap (sent_on c.self.inside.packets.items) sent)) in
    subst (λ (v : World). OnOk c.send.result (record w { packets = c.send.new.packets.items } ≡ step v (Nudge c.args.number))) seen ok
