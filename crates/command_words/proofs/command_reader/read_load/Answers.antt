use Rattle.std.proofs.Common.{rules, ◌≡◌, ◌∙◌, ◌<◌, ◌^◌, [], ◌∷◌, refl, ap, arith, inl, inr, decimal, drop}
use Rattle.command_words.specs.Parts.{number_words}
use Rattle.command_words.specs.CutParts.{texts_of, two_values}
use Rattle.command_words.specs.declared.faults.WordsFault.TheVariants as WordsFault
use Rattle.command_words.proofs.SpelledOptions.{few_asked}
use Rattle.command_words.proofs.Commands.{same_fault, one_number, same_numbers}
use Rattle.command_words.proofs.command_reader.read_load.Goals as goal

pub returns-in_err-cut-clause-bad_use : goal.returns-in_err-cut-clause-bad_use
returns-in_err-cut-clause-bad_use c = λ e chosen n seed numbers turns a.
    c.in_err-cut.ensures.bad_use (same_fault c.from_residual.result c.in_err-cut.field-0.0 WordsFault.BadUse c.from_residual.ensures.1 e) a.parts a.have (few_asked (drop 1 (texts_of c.args.words.now)) chosen (decimal n ∷ decimal seed ∷ []) a (inr refl))

pub returns-then-transfers-eq0-clause-bad_use : goal.returns-then-transfers-eq0-clause-bad_use
returns-then-transfers-eq0-clause-bad_use c = λ e chosen n seed numbers turns a.
    let cut = c.in_ok-cut.ensures.cut in
    let small : c.in-Some-read_small.transfers < 2 ^ 32 = search rules in
    let pair : number_words cut.0 ≡ c.in-Some.first.now ∷ c.in-Some.second.now ∷ [] = cut.2.numbers ∙ ap two_values c.in-Some.is in
    let text = (same_numbers (drop 1 (texts_of c.args.words.now)) cut.0 a.parts c.in-Some.first.now c.in-Some.second.now (decimal n) (decimal seed) cut.1 a.have pair a.numbers_are).0 in
    let same : c.in-Some-read_small.transfers ≡ n =
    one_number c.in-Some.first.now c.in-Some-read_small.transfers n (omega (arith, small)) (omega (arith, numbers.1)) c.in-Some-read_small.ensures.some text in
    elim c.then-transfers-eq0.either [
      | inl none ↦ omega (arith, same, none, numbers.0)
      | inr over ↦ omega (arith, same, over.1, numbers.1)
    ]
