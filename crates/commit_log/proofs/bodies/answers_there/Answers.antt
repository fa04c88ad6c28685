use Rattle.std.proofs.lemmas.Result.{err_from_is_err_and}
use Rattle.field_codec.specs.Fields.{answer_at}
use Rattle.field_codec.proofs.ReaderLoops.{goes_on, ends, is_done}
use Rattle.commit_log.proofs.bodies.answers_there.Goals as goal

pub loop-preserved : goal.loop-preserved
loop-preserved c = rw c.in_ok-push.ensures.pushed (goes_on (λ s. answer_at c.args.format) (λ s x. s) c.args.bytes.now tt c.loop.answers c.args.count c.loop.counter c.loop.place c.in_ok-answer.answer c.in_ok-answer.after _ c.loop-test.true c.in_ok-answer.ensures.exact c.loop.invariant)

pub returns-in_err-answer : goal.returns-in_err-answer
returns-in_err-answer c =
    let p = err_from_is_err_and c.from_residual.result c.from_residual.ensures.1 in
    rw (p.1, p.2) (ends (λ s. answer_at c.args.format) (λ s x. s) c.args.bytes.now tt c.in_err-answer.field-0.0 c.loop.answers c.args.count c.loop.counter c.loop.place _ c.loop-test.true c.in_err-answer.ensures.exact c.loop.invariant)

pub returns : goal.returns
returns c = is_done (λ s. answer_at c.args.format) (λ s x. s) c.args.bytes.now tt c.loop.answers c.args.count c.loop.counter c.loop.place _ c.loop-test.false c.loop.invariant
