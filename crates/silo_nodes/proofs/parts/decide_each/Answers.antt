use Rattle.std.proofs.Common.{refl, ◌∷◌, []}
use Rattle.silo_nodes.specs.Packets.{Decision}
use Rattle.silo_nodes.specs.Coordinators.{Part, decide_each}
use Rattle.silo_nodes.proofs.GrownLists.{sends_on, sends_all}
use Rattle.silo_nodes.proofs.parts.decide_each.Goals as goal

pub loop-part-preserved : goal.loop-part-preserved
loop-part-preserved c =
    sends_on (decide_each c.args.txn c.args.commit) (λ (q : Part). Decision c.args.txn q.node c.args.commit ∷ []) (λ q qs. refl) c.args.parts.now c.loop-part.part-index c.part-item.result _ _ _
    c.loop-part-test.true c.part-item.is c.in_ok-push.ensures.items c.loop-part.invariant

pub returns : goal.returns
returns c = sends_all (decide_each c.args.txn c.args.commit) refl c.args.parts.now c.loop-part.part-index _ _ c.loop-part-test.false c.loop-part.invariant
