use Rattle.std.proofs.Common.{take}
use Rattle.command_words.specs.Numbers.{AreNumbers}
use Rattle.command_words.proofs.Picks.{now_all}
use Rattle.command_words.proofs.numbers.numbers_of.Given as goal

abbrev pub invariant-loop-text : goal.invariant-loop-text
invariant-loop-text l = AreNumbers (now_all (take l.text-index l.texts)) l.numbers.items
