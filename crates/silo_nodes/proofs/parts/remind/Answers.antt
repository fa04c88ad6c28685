use Rattle.std.proofs.Common.{refl, ◌∷◌, [], filter}
use Rattle.std.specs.Prelude.{if◌then◌else◌}
use Rattle.silo_nodes.specs.Packets.{Prepare}
use Rattle.silo_nodes.specs.Coordinators.{Part, prepare_each, is_late}
use Rattle.silo_nodes.proofs.GrownLists.{sends_on, sends_all, late-first}
use Rattle.silo_nodes.proofs.parts.remind.Goals as goal

pub loop-part-preserved : goal.loop-part-preserved
loop-part-preserved c =
    sends_on (λ qs. prepare_each c.args.txn (filter (is_late c.args.said.now) qs))
    (λ (q : Part). if is_late c.args.said.now q then Prepare c.args.txn q.node q.shifts ∷ [] else [])
    (late-first c.args.txn c.args.said.now) c.args.parts.now c.loop-part.part-index c.part-item.result _ _ _
    c.loop-part-test.true c.part-item.is c.in_ok-remind_one.ensures c.loop-part.invariant

pub returns : goal.returns
returns c = sends_all (λ qs. prepare_each c.args.txn (filter (is_late c.args.said.now) qs)) refl c.args.parts.now c.loop-part.part-index _ _ c.loop-part-test.false c.loop-part.invariant
