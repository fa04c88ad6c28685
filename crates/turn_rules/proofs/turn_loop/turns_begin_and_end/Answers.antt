use Rattle.turn_rules.proofs.Turns.{turning-begins, turn-dropped, turn-ended}
use Rattle.turn_rules.proofs.turn_loop.turns_begin_and_end.Goals as goal

pub returns-clause-none : goal.returns-clause-none
returns-clause-none c = turning-begins

pub returns-clause-dropped : goal.returns-clause-dropped
returns-clause-dropped c = turn-dropped

pub returns-clause-ended : goal.returns-clause-ended
returns-clause-ended c = turn-ended
