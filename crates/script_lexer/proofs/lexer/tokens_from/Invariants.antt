use Rattle.std.proofs.Common.{length, ◌-◌}
use Rattle.script_lexer.proofs.Turns.{Reaches}
use Rattle.script_lexer.proofs.lexer.tokens_from.Given as goal

abbrev pub invariant-loop-at : goal.invariant-loop-at
invariant-loop-at l = Reaches l.stop l.text l.tokens.items l.at

abbrev pub decreases-loop-at : goal.decreases-loop-at
decreases-loop-at l = length l.text - l.at
