use Rattle.std.proofs.Common.{length, ap, arith}
use Rattle.host_trait.specs.declared.channels.FileId.TheVariants.{Manager}
use Rattle.host_trait.specs.World.{Disk}
use Rattle.memory_tests.proofs.calls.write.Goals as goal

pub write_at-requires-clause-place : goal.write_at-requires-clause-place
write_at-requires-clause-place c told =
    let same = ap (λ (d : Disk). length (d (Manager 0)).seen) (c.length.ensures.told told).disk in
    let size = c.in_ok-length.ensures.len told in
    omega (arith, same, size, c.if-at-length.false)
