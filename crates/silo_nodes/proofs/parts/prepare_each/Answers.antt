use Rattle.std.proofs.Common.{refl, ◌∷◌, []}
use Rattle.silo_nodes.specs.Packets.{Prepare}
use Rattle.silo_nodes.specs.Coordinators.{Part, prepare_each}
use Rattle.silo_nodes.proofs.GrownLists.{sends_on, sends_all}
use Rattle.silo_nodes.proofs.parts.prepare_each.Goals as goal

pub loop-part-preserved : goal.loop-part-preserved
loop-part-preserved c =
    sends_on (prepare_each c.args.txn) (λ (q : Part). Prepare c.args.txn q.node q.shifts ∷ []) (λ q qs. refl) c.args.parts.now c.loop-part.part-index c.part-item.result _ _ _
    c.loop-part-test.true c.part-item.is c.in_ok-request.ensures c.loop-part.invariant

pub returns : goal.returns
returns c = sends_all (prepare_each c.args.txn) refl c.args.parts.now c.loop-part.part-index _ _ c.loop-part-test.false c.loop-part.invariant
