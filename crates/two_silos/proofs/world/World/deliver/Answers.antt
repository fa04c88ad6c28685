use Rattle.std.proofs.Common.{◌≡◌, ◌<◌, ◌∙◌, length, rules, ap, sym, subst, OnOk, OnErr, Some, None, slice_get}
use Rattle.std.specs.Prelude.{slice_set}
use Rattle.silo_nodes.specs.LogCache.{Node}
use Rattle.two_silos.specs.World.{World, Deliver, step, receiver_of, node_at, nobody}
use Rattle.two_silos.specs.Links.{Handed}
use Rattle.two_silos.proofs.ReachedWorlds.{reached-within, packet-apart, told-step, handed-step, got-back, got-member, after, on-ok, on-err, handed-same}
use Rattle.two_silos.proofs.OpenedNodes.{at-any}
use Rattle.two_silos.proofs.world.World.deliver.Goals as goal

pub invariant_of-self : goal.invariant_of-self
invariant_of-self c =
    let w : World = record { coordinator = c.self.inside.coordinator; nodes = c.self.inside.nodes.items; packets = c.self.inside.packets.items } in
    let found : slice_get c.self.inside.packets.items c.args.number ≡ Some c.in-Some.sent.now = subst (λ l. slice_get l c.args.number ≡ Some c.in-Some.sent.now) c.deref.ensures.value (got-back c.deref.result.now c.args.number c.in-Some.sent.now c.in-Some.ensures.lookup.3.0 c.in-Some.ensures.lookup.1) in
    let same : c.in_ok-packet.packet ≡ c.in-Some.sent.now = search rules in
    let none : receiver_of c.in_ok-packet.packet ≡ None = search rules in
    let v : World = record w { coordinator = c.tell.new.coordinator; packets = c.tell.new.packets.items } in
    let ok : OnOk c.tell.result (v ≡ step w (Deliver c.args.number)) =
    on-ok c.tell.result _ _ c.tell.ensures.ok (λ t. told-step w c.args.number c.in_ok-packet.packet c.tell.new.coordinator c.tell.new.packets.items (reached-within w c.self.invariant) (found ∙ ap (λ p. Some p) (sym same)) none t) in
    let kept : OnErr c.tell.result (v ≡ w) = on-err c.tell.result _ _ c.tell.ensures.kept (λ k. (λ i. record w { coordinator = k.0 i; packets = k.1 i })) in
    after c.tell.result w v (Deliver c.args.number) c.self.invariant ok kept

pub returns-in_default-receiver-clause-ok : goal.returns-in_default-receiver-clause-ok
returns-in_default-receiver-clause-ok c =
    let w : World = record { coordinator = c.self.inside.coordinator; nodes = c.self.inside.nodes.items; packets = c.self.inside.packets.items } in
    let seen : w ≡ c.args.self.now = search rules in
    let found : slice_get c.self.inside.packets.items c.args.number ≡ Some c.in-Some.sent.now = subst (λ l. slice_get l c.args.number ≡ Some c.in-Some.sent.now) c.deref.ensures.value (got-back c.deref.result.now c.args.number c.in-Some.sent.now c.in-Some.ensures.lookup.3.0 c.in-Some.ensures.lookup.1) in
    let same : c.in_ok-packet.packet ≡ c.in-Some.sent.now = search rules in
    let none : receiver_of c.in_ok-packet.packet ≡ None = search rules in
    let v : World = record w { coordinator = c.tell.new.coordinator; packets = c.tell.new.packets.items } in
    let ok : OnOk c.tell.result (v ≡ step w (Deliver c.args.number)) =
    on-ok c.tell.result _ _ c.tell.ensures.ok (λ t. told-step w c.args.number c.in_ok-packet.packet c.tell.new.coordinator c.tell.new.packets.items (reached-within w c.self.invariant) (found ∙ ap (λ p. Some p) (sym same)) none t) in
    subst (λ (u : World). OnOk c.tell.result (v ≡ step u (Deliver c.args.number))) seen ok

pub hand-requires : goal.hand-requires
hand-requires c =
    let w : World = record { coordinator = c.self.inside.coordinator; nodes = c.self.inside.nodes.items; packets = c.self.inside.packets.items } in
    let found : slice_get c.self.inside.packets.items c.args.number ≡ Some c.in-Some.sent.now = subst (λ l. slice_get l c.args.number ≡ Some c.in-Some.sent.now) c.deref.ensures.value (got-back c.deref.result.now c.args.number c.in-Some.sent.now c.in-Some.ensures.lookup.3.0 c.in-Some.ensures.lookup.1) in
    let same : c.in_ok-packet.packet ≡ c.in-Some.sent.now = search rules in
    record { apart = packet-apart w c.self.invariant c.in_ok-packet.packet (got-member c.self.inside.packets.items c.args.number c.in_ok-packet.packet (found ∙ ap (λ p. Some p) (sym same))) }

pub invariant_of-self-2 : goal.invariant_of-self-2
invariant_of-self-2 c =
    let w : World = record { coordinator = c.self.inside.coordinator; nodes = c.self.inside.nodes.items; packets = c.self.inside.packets.items } in
    let found : slice_get c.self.inside.packets.items c.args.number ≡ Some c.in-Some.sent.now = subst (λ l. slice_get l c.args.number ≡ Some c.in-Some.sent.now) c.deref.ensures.value (got-back c.deref.result.now c.args.number c.in-Some.sent.now c.in-Some.ensures.lookup.3.0 c.in-Some.ensures.lookup.1) in
    let same : c.in_ok-packet.packet ≡ c.in-Some.sent.now = search rules in
    let some : receiver_of c.in_ok-packet.packet ≡ Some c.in-Some-receiver.to = search rules in
    let there : c.in-Some-receiver.to < length c.self.inside.nodes.items = search rules in
    let item : c.index_mut.result.now ≡ node_at c.self.inside.nodes.items c.in-Some-receiver.to = at-any c.self.inside.nodes.items c.in-Some-receiver.to c.index_mut.result.now nobody there c.index_mut.ensures.value in
    let v : World = record w { nodes = slice_set c.self.inside.nodes.items c.in-Some-receiver.to c.hand.new.node; packets = c.hand.new.packets.items } in
    let ok : OnOk c.hand.result (v ≡ step w (Deliver c.args.number)) =
    on-ok c.hand.result _ _ c.hand.ensures.ok (λ t. handed-step w c.args.number c.in-Some-receiver.to c.in_ok-packet.packet c.hand.new.node c.hand.new.packets.items (reached-within w c.self.invariant) (found ∙ ap (λ p. Some p) (sym same)) some there
    (subst (λ (x : Node). Handed x c.self.inside.packets.items c.in_ok-packet.packet c.hand.new.node c.hand.new.packets.items) item t)) in
    let kept : OnErr c.hand.result (v ≡ w) = on-err c.hand.result _ _ c.hand.ensures.kept (λ k. handed-same w c.in-Some-receiver.to c.hand.new.node c.hand.new.packets.items (k.0 ∙ item) k.1) in
    after c.hand.result w v (Deliver c.args.number) c.self.invariant ok kept

pub returns-clause-ok : goal.returns-clause-ok
returns-clause-ok c =
    let w : World = record { coordinator = c.self.inside.coordinator; nodes = c.self.inside.nodes.items; packets = c.self.inside.packets.items } in
    let seen : w ≡ c.args.self.now = search rules in
    let found : slice_get c.self.inside.packets.items c.args.number ≡ Some c.in-Some.sent.now = subst (λ l. slice_get l c.args.number ≡ Some c.in-Some.sent.now) c.deref.ensures.value (got-back c.deref.result.now c.args.number c.in-Some.sent.now c.in-Some.ensures.lookup.3.0 c.in-Some.ensures.lookup.1) in
    let same : c.in_ok-packet.packet ≡ c.in-Some.sent.now = search rules in
    let some : receiver_of c.in_ok-packet.packet ≡ Some c.in-Some-receiver.to = search rules in
    let there : c.in-Some-receiver.to < length c.self.inside.nodes.items = search rules in
    let item : c.index_mut.result.now ≡ node_at c.self.inside.nodes.items c.in-Some-receiver.to = at-any c.self.inside.nodes.items c.in-Some-receiver.to c.index_mut.result.now nobody there c.index_mut.ensures.value in
    let v : World = record w { nodes = slice_set c.self.inside.nodes.items c.in-Some-receiver.to c.hand.new.node; packets = c.hand.new.packets.items } in
    let ok : OnOk c.hand.result (v ≡ step w (Deliver c.args.number)) =
    on-ok c.hand.result _ _ c.hand.ensures.ok (λ t. handed-step w c.args.number c.in-Some-receiver.to c.in_ok-packet.packet c.hand.new.node c.hand.new.packets.items (reached-within w c.self.invariant) (found ∙ ap (λ p. Some p) (sym same)) some there
    (subst (λ (x : Node). Handed x c.self.inside.packets.items c.in_ok-packet.packet c.hand.new.node c.hand.new.packets.items) item t)) in
    subst (λ (u : World). OnOk c.hand.result (v ≡ step u (Deliver c.args.number))) seen ok
