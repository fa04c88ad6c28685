use Rattle.std.proofs.Common.{◌≡◌, ◌∙◌, ◌<◌, rules, ap, subst}
use Rattle.two_silos.specs.World.{World, RestartCoordinator, step}
use Rattle.two_silos.proofs.ReachedWorlds.{reached-within, reached-next, restart-step}
use Rattle.two_silos.proofs.world.World.restart_coordinator.Goals as goal

pub invariant_of-self : goal.invariant_of-self
invariant_of-self c =
    let w : World = record { coordinator = c.self.inside.coordinator; nodes = c.self.inside.nodes.items; packets = c.self.inside.packets.items } in
    let left : c.self.inside.coordinator.epoch < 4294967295 = search rules in
    let is : record w { coordinator = c.restart.new.self } ≡ step w RestartCoordinator =
    ap (λ x. record w { coordinator = x }) c.restart.ensures ∙ restart-step w (reached-within w c.self.invariant) left in
    reached-next w (record w { coordinator = c.restart.new.self }) RestartCoordinator c.self.invariant is

pub returns-then-epoch-lt4294967295 : goal.returns-then-epoch-lt4294967295
returns-then-epoch-lt4294967295 c =
    let w : World = record { coordinator = c.self.inside.coordinator; nodes = c.self.inside.nodes.items; packets = c.self.inside.packets.items } in
    let seen : w ≡ c.args.self.now = search rules in
    let left : c.self.inside.coordinator.epoch < 4294967295 = search rules in
    let is : record w { coordinator = c.restart.new.self } ≡ step w RestartCoordinator =
    ap (λ x. record w { coordinator = x }) c.restart.ensures ∙ restart-step w (reached-within w c.self.invariant) left in
    subst (λ (v : World). record w { coordinator = c.restart.new.self } ≡ step v RestartCoordinator) seen is
