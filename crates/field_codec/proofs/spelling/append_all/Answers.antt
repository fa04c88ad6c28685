use Rattle.std.proofs.Common.{take}
use Rattle.std.specs.List.{flat_map}
use Rattle.field_codec.proofs.ByteGrowth.{begins_on, begins_with, all_more, all_done, flat_more, flat_done}
use Rattle.field_codec.proofs.spelling.append_all.Goals as goal

pub loop-item-preserved : goal.loop-item-preserved
loop-item-preserved g c = record {
  spelled = flat_more g.T.Spelled.spelling c.args.items.now c.loop-item.item-index c.item-item.result _ _ _ c.loop-item-test.true c.item-item.is c.in_ok-append.ensures.ok c.loop-item.invariant.spelled;
  fitting = all_more g.T.Spelled.fits c.args.items.now c.loop-item.item-index c.item-item.result c.loop-item-test.true c.item-item.is c.in_ok-append.ensures.fits c.loop-item.invariant.fitting;
}

pub returns-clause-ok : goal.returns-clause-ok
returns-clause-ok g c = flat_done g.T.Spelled.spelling c.args.items.now c.loop-item.item-index _ _ c.loop-item-test.false c.loop-item.invariant.spelled

pub returns-clause-fits : goal.returns-clause-fits
returns-clause-fits g c = all_done g.T.Spelled.fits c.args.items.now c.loop-item.item-index c.loop-item-test.false c.loop-item.invariant.fitting

pub returns-in_err-append-clause-begins : goal.returns-in_err-append-clause-begins
returns-in_err-append-clause-begins g c = begins_on _ _ _ _ c.loop-item.invariant.spelled c.in_err-append.ensures.begins

pub returns-clause-begins : goal.returns-clause-begins
returns-clause-begins g c = begins_with _ (flat_map g.T.Spelled.spelling (take c.loop-item.item-index c.args.items.now)) _ c.loop-item.invariant.spelled
