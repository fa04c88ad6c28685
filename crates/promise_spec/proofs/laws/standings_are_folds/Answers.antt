use Rattle.promise_spec.proofs.Standings.{counted, numbered, program_stays, states_are, in_parts}
use Rattle.promise_spec.proofs.Growing.{held_are}
use Rattle.promise_spec.proofs.laws.standings_are_folds.Goals as goal

pub returns-clause-count : goal.returns-clause-count
returns-clause-count c = counted

pub returns-clause-next : goal.returns-clause-next
returns-clause-next c = numbered

pub returns-clause-held : goal.returns-clause-held
returns-clause-held c = held_are

pub returns-clause-program : goal.returns-clause-program
returns-clause-program c = program_stays

pub returns-clause-states : goal.returns-clause-states
returns-clause-states c = states_are

pub returns-clause-front : goal.returns-clause-front
returns-clause-front c = in_parts
