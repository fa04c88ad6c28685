use Rattle.turn_rules.proofs.Turns.{turn-unapplied, turn-bad, turn-line}
use Rattle.turn_rules.proofs.turn_loop.turns_go_on_by_lines.Goals as goal

pub returns-clause-unapplied : goal.returns-clause-unapplied
returns-clause-unapplied c = turn-unapplied

pub returns-clause-bad : goal.returns-clause-bad
returns-clause-bad c = turn-bad

pub returns-clause-line : goal.returns-clause-line
returns-clause-line c = turn-line
