use Rattle.std.proofs.Common.{◌∷◌, [], length-append, arith}
use Rattle.std.proofs.lemmas.Result.{err_from_is_err_and}
use Rattle.field_codec.specs.Fields.{value_at}
use Rattle.field_codec.proofs.ReaderLoops.{goes_on, ends, is_done}
use Rattle.field_codec.proofs.values.get_values.Goals as goal

pub loop-preserved : goal.loop-preserved
loop-preserved c = rw c.in_ok-push.ensures.pushed (omega (arith, length-append c.loop.values (c.in_ok-value.value ∷ [])), goes_on (λ s. value_at c.args.format) (λ s x. s) c.args.bytes.now tt c.loop.values c.args.count c.loop.counter c.loop.place c.in_ok-value.value c.in_ok-value.after _ c.loop-test.true c.in_ok-value.ensures c.loop.invariant.1)

pub returns-in_err-value-clause-exact : goal.returns-in_err-value-clause-exact
returns-in_err-value-clause-exact c =
    let p = err_from_is_err_and c.from_residual.result c.from_residual.ensures.1 in
    rw (p.1, p.2) (ends (λ s. value_at c.args.format) (λ s x. s) c.args.bytes.now tt c.in_err-value.field-0.0 c.loop.values c.args.count c.loop.counter c.loop.place _ c.loop-test.true c.in_err-value.ensures c.loop.invariant.1)

pub returns-clause-exact : goal.returns-clause-exact
returns-clause-exact c = is_done (λ s. value_at c.args.format) (λ s x. s) c.args.bytes.now tt c.loop.values c.args.count c.loop.counter c.loop.place _ c.loop-test.false c.loop.invariant.1
