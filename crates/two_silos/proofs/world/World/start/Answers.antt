use Rattle.std.proofs.Common.{◌≡◌, ◌≤◌, rules, subst, length, true, OnOk, OnErr}
use Rattle.std.specs.List.{list_all}
use Rattle.silo_nodes.specs.Coordinators.{parts_from}
use Rattle.two_silos.specs.World.{World, Start, step, is_part}
use Rattle.two_silos.specs.Links.{Begun}
use Rattle.two_silos.proofs.ReachedWorlds.{reached-within, start-step, after, on-ok, on-err}
use Rattle.two_silos.proofs.world.World.start.Goals as goal

pub invariant_of-self : goal.invariant_of-self
invariant_of-self c =
    let w : World = record { coordinator = c.self.inside.coordinator; nodes = c.self.inside.nodes.items; packets = c.self.inside.packets.items } in
    let few : length c.args.lists.now ≤ 8 = search rules in
    let parts : c.in_ok-parts.parts ≡ parts_from 0 c.args.lists.now = search rules in
    let there : list_all (is_part c.self.inside.nodes.items) c.in_ok-parts.parts ≡ true = search rules in
    let v : World = record w { coordinator = c.begin.new.coordinator; packets = c.begin.new.packets.items } in
    let ok : OnOk c.begin.result (v ≡ step w (Start c.args.lists.now)) =
    on-ok c.begin.result _ _ c.begin.ensures.ok (λ t. start-step w c.args.lists.now c.begin.new.coordinator c.begin.new.packets.items (reached-within w c.self.invariant) few
    (subst (λ qs. list_all (is_part c.self.inside.nodes.items) qs ≡ true) parts there)
    (subst (λ qs. Begun c.self.inside.coordinator c.self.inside.packets.items qs c.begin.new.coordinator c.begin.new.packets.items) parts t)) in
    let kept : OnErr c.begin.result (v ≡ w) = on-err c.begin.result _ _ c.begin.ensures.kept (λ k. (λ i. record w { coordinator = k.0 i; packets = k.1 i })) in
    after c.begin.result w v (Start c.args.lists.now) c.self.invariant ok kept

pub returns-clause-ok : goal.returns-clause-ok
returns-clause-ok c =
    let w : World = record { coordinator = c.self.inside.coordinator; nodes = c.self.inside.nodes.items; packets = c.self.inside.packets.items } in
    let seen : w ≡ c.args.self.now = search rules in
    let few : length c.args.lists.now ≤ 8 = search rules in
    let parts : c.in_ok-parts.parts ≡ parts_from 0 c.args.lists.now = search rules in
    let there : list_all (is_part c.self.inside.nodes.items) c.in_ok-parts.parts ≡ true = search rules in
    let v : World = record w { coordinator = c.begin.new.coordinator; packets = c.begin.new.packets.items } in
    let ok : OnOk c.begin.result (v ≡ step w (Start c.args.lists.now)) =
    on-ok c.begin.result _ _ c.begin.ensures.ok (λ t. start-step w c.args.lists.now c.begin.new.coordinator c.begin.new.packets.items (reached-within w c.self.invariant) few
    (subst (λ qs. list_all (is_part c.self.inside.nodes.items) qs ≡ true) parts there)
    (subst (λ qs. Begun c.self.inside.coordinator c.self.inside.packets.items qs c.begin.new.coordinator c.begin.new.packets.items) parts t)) in
    subst (λ (u : World). OnOk c.begin.result (v ≡ step u (Start c.args.lists.now))) seen ok
