use Rattle.std.proofs.Common.{rules, ◌≡◌, ◌+◌, ◌^◌, ◌≤◌, length, ap, ◌∙◌, arith}
use Rattle.host_trait.specs.World.{World}
use Rattle.grain_log.proofs.reads.read_text.Goals as goal

pub returns-then-not-is_near-clause-none : goal.returns-then-not-is_near-clause-none
returns-then-not-is_near-clause-none g c told =
    let same : g.H.Host.world c.ready.new.self ≡ g.H.Host.world c.args.host.now = c.ready.ensures.told told in
    let size : c.in_ok-length.field-0 ≡ length ((g.H.Host.world c.args.host.now).disk c.args.file).seen = c.in_ok-length.ensures.len told ∙ ap (λ (w : World). length (w.disk c.args.file).seen) same in
    let low = c.in_ok-length.ensures.bound in
    let far : 2 ^ 63 ≤ c.args.place.offset + c.args.place.len = search rules in
    let near = c.requires.offset in
    omega (arith, size, low, far, near)
