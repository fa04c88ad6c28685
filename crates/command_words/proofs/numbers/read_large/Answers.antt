use Rattle.std.proofs.Common.{◌≡◌, ◌∙◌, sym, arith, true≢false}
use Rattle.std.proofs.lemmas.Fmt.{parse-decimal}
use Rattle.std.proofs.lemmas.Slice.Eq.{bytes_eq-Decides}
use Rattle.command_words.proofs.numbers.read_large.Goals as goal

pub returns-else-eq-clause-none : goal.returns-else-eq-clause-none
returns-else-eq-clause-none c = λ e n small text.
    let read = parse-decimal 64 n _ _ small (omega (arith, small)) text c.parse.ensures.value.0 in
    let same : c.format.result.now ≡ c.args.text.now = cc text in
    true≢false (sym ((bytes_eq-Decides c.format.result.now c.args.text.now).1 same) ∙ sym c.eq.ensures ∙ c.if-eq.false)

pub returns-in-Err-clause-none : goal.returns-in-Err-clause-none
returns-in-Err-clause-none c = λ e n small text. absurd (cc (parse-decimal 64 n _ _ small (omega (arith, small)) text c.parse.ensures.value.0))
