use Rattle.std.proofs.Common.{◌≡◌, ◌≤◌, arith, rules, length}
use Rattle.two_silos.specs.World.{World}
use Rattle.two_silos.proofs.ReachedWorlds.{reached-packets}
use Rattle.two_silos.proofs.world.World.packets.Goals as goal

pub returns-clause-limit : goal.returns-clause-limit
returns-clause-limit c =
    let w : World = record { coordinator = c.self.inside.coordinator; nodes = c.self.inside.nodes.items; packets = c.self.inside.packets.items } in
    let few : length c.self.inside.packets.items ≤ 4294967296 = reached-packets w c.self.invariant in
    let same : c.len.result ≡ length c.self.inside.packets.items = search rules in
    omega (arith, few, same)
