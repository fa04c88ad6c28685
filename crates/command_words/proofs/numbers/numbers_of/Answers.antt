use Rattle.std.proofs.Common.{rules, sym, arith, subst, List, ℕ, take, ◌+◌}
use Rattle.command_words.specs.Numbers.{AreNumbers}
use Rattle.command_words.proofs.Picks.{now_all, next_number, no_number, all_numbers}
use Rattle.command_words.proofs.numbers.numbers_of.Goals as goal

pub returns-in_default : goal.returns-in_default
returns-in_default c = no_number c.args.texts.now c.loop-text.text-index _ c.loop-text-test.true (c.read_small.ensures.none c.in_default.is)

pub loop-text-preserved : goal.loop-text-preserved
loop-text-preserved c =
    subst (λ (l : List ℕ). AreNumbers (now_all (take (c.loop-text.text-index + 1) c.args.texts.now)) l) (sym c.in_ok-push.ensures.items)
    (next_number c.args.texts.now c.loop-text.numbers.items c.loop-text.text-index _ c.in-Some.number c.loop-text-test.true c.loop-text.invariant c.in-Some.ensures.some (search rules))

pub returns : goal.returns
returns c = all_numbers c.args.texts.now c.loop-text.numbers.items c.loop-text.text-index (omega (arith, c.loop-text-test.false, c.loop-text.auto.text-index-end)) c.loop-text.invariant
