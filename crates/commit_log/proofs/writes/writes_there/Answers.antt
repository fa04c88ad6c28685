use Rattle.std.proofs.lemmas.Result.{err_from_is_err_and}
use Rattle.field_codec.proofs.ReaderLoops.{goes_on, ends, is_done}
use Rattle.commit_log.specs.Orders.{grain_after}
use Rattle.commit_log.specs.Fields.{write_in}
use Rattle.commit_log.proofs.writes.writes_there.Goals as goal

pub loop-preserved : goal.loop-preserved
loop-preserved c = rw c.in_ok-push.ensures.pushed (goes_on (write_in c.args.shape.now) grain_after c.args.bytes.now c.loop.last c.loop.writes c.args.count c.loop.counter c.loop.place c.in_ok-write.write c.in_ok-write.after _ c.loop-test.true c.in_ok-write.ensures c.loop.invariant)

pub returns-in_err-write : goal.returns-in_err-write
returns-in_err-write c =
    let p = err_from_is_err_and c.from_residual.result c.from_residual.ensures.1 in
    rw (p.1, p.2) (ends (write_in c.args.shape.now) grain_after c.args.bytes.now c.loop.last c.in_err-write.field-0.0 c.loop.writes c.args.count c.loop.counter c.loop.place _ c.loop-test.true c.in_err-write.ensures c.loop.invariant)

pub returns : goal.returns
returns c = is_done (write_in c.args.shape.now) grain_after c.args.bytes.now c.loop.last c.loop.writes c.args.count c.loop.counter c.loop.place _ c.loop-test.false c.loop.invariant
