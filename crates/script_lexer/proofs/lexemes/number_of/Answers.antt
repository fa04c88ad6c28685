use Rattle.std.proofs.Common.{arith, refl}
use Rattle.script_lexer.proofs.Numbers.{too_large}
use Rattle.script_lexer.proofs.lexemes.number_of.Goals as goal

pub returns-in_err-checked_mul : goal.returns-in_err-checked_mul
returns-in_err-checked_mul c = rw (c.from_residual.ensures, too_large c.args.first c.loop-d.value c.loop-d.d-index c.args.digits.now c.loop-d-test.true c.loop-d.invariant (omega (arith, c.in_err-checked_mul.ensures))) refl

pub returns-in_err-value : goal.returns-in_err-value
returns-in_err-value c = rw (c.from_residual-in_err-value.ensures, too_large c.args.first c.loop-d.value c.loop-d.d-index c.args.digits.now c.loop-d-test.true c.loop-d.invariant (omega (arith, c.in_ok-checked_mul.ensures, c.in_err-value.ensures))) refl
