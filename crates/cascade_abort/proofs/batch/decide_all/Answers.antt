use Rattle.std.proofs.Common.{◌≡◌, arith, take}
use Rattle.cell_model.specs.Sources.{is_among}
use Rattle.cell_model.specs.Decisions.{decision}
use Rattle.cascade_abort.specs.DeadUnits.{dead_by}
use Rattle.cascade_abort.proofs.Steps.{one-more, all-decided}
use Rattle.cascade_abort.proofs.batch.decide_all.Goals as goal

pub loop-at-preserved : goal.loop-at-preserved
loop-at-preserved c =
    let is : c.decide.result ≡ decision (dead_by (is_among c.args.aborted.now) (take c.loop-at.at c.args.batch.now) (take c.loop-at.at c.loop-at.into)) c.index-batch-at.result = c.decide.ensures in
    one-more (is_among c.args.aborted.now) c.args.batch.now c.loop-at.into c.loop-at.at c.index-batch-at.result c.decide.result (omega arith) (omega arith) c.index-batch-at.is c.loop-at.invariant is

pub returns : goal.returns
returns c = all-decided (is_among c.args.aborted.now) c.args.batch.now c.loop-at.into c.loop-at.at (omega arith) c.loop-at-test.false c.loop-at.invariant
