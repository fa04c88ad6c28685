use Rattle.std.proofs.Common.{◌≡◌, drop}
use Rattle.script_lexer.specs.Spellings.{number_from}
use Rattle.script_lexer.proofs.lexemes.number_of.Given as goal

abbrev pub invariant-loop-d : goal.invariant-loop-d
invariant-loop-d l = number_from l.value (drop l.d-index l.digits) ≡ number_from l.first l.digits
