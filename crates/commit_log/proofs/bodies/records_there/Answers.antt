use Rattle.std.proofs.lemmas.Result.{err_from_is_err_and}
use Rattle.commit_log.specs.Fields.{record_in}
use Rattle.field_codec.proofs.ReaderLoops.{goes_on, ends, is_done}
use Rattle.commit_log.proofs.bodies.records_there.Goals as goal

pub loop-preserved : goal.loop-preserved
loop-preserved c = rw c.in_ok-push.ensures.pushed (goes_on (λ s. (record_in c.args.format c.args.numbers c.args.shape.now)) (λ s x. s) c.args.bytes.now tt c.loop.records c.args.count c.loop.counter c.loop.place c.in_ok-record.record c.in_ok-record.after _ c.loop-test.true c.in_ok-record.ensures c.loop.invariant)

pub returns-in_err-record : goal.returns-in_err-record
returns-in_err-record c =
    let p = err_from_is_err_and c.from_residual.result c.from_residual.ensures.1 in
    rw (p.1, p.2) (ends (λ s. (record_in c.args.format c.args.numbers c.args.shape.now)) (λ s x. s) c.args.bytes.now tt c.in_err-record.field-0.0 c.loop.records c.args.count c.loop.counter c.loop.place _ c.loop-test.true c.in_err-record.ensures c.loop.invariant)

pub returns : goal.returns
returns c = is_done (λ s. (record_in c.args.format c.args.numbers c.args.shape.now)) (λ s x. s) c.args.bytes.now tt c.loop.records c.args.count c.loop.counter c.loop.place _ c.loop-test.false c.loop.invariant
