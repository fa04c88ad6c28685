use denote.Shadow.{shadow}
use denote.Text.{Utf8}
use Rattle.agent_tests.proofs.races.add_folded.Given as goal

-- the last line is text
abbrev pub invariant-loop-line : goal.invariant-loop-line
invariant-loop-line l = shadow (Utf8 l.last)
