use Rattle.std.proofs.Common.{arith}
use Rattle.host_memory.proofs.Worlds.{syncs_more}
use Rattle.host_memory.proofs.events.count_syncs.Goals as goal

pub loop-noted-preserved : goal.loop-noted-preserved
loop-noted-preserved c =
    let e = c.noted-item.result in (
      omega (arith, c.loop-noted.invariant.0, c.syncs_in-syncs.ensures.bound),
      syncs_more c.args.events.now c.loop-noted.noted-index c.loop-noted.syncs c.syncs_in-syncs.result e c.loop-noted-test.true c.noted-item.is c.loop-noted.invariant.1 c.syncs_in-syncs.ensures.value,
    )
