use Rattle.std.proofs.Common.{rules, ◌≡◌, ◌<◌, ◌^◌, arith}
use Rattle.command_words.proofs.Commands.{one_number}
use Rattle.command_words.proofs.command_reader.read_starts.Goals as goal

pub returns-then-starts-gt-START_LIMIT-clause-none : goal.returns-then-starts-gt-START_LIMIT-clause-none
returns-then-starts-gt-START_LIMIT-clause-none c = λ e n few text.
    let small : c.in-Some.starts < 2 ^ 32 = search rules in
    let same : c.in-Some.starts ≡ n = one_number c.args.text.now c.in-Some.starts n (omega (arith, small)) (omega (arith, few)) c.in-Some.ensures.some text in
    omega (arith, same, few, c.if-starts-gt-START_LIMIT.true)
