use Rattle.history_core.proofs.LastWriters.{last-ends}
use Rattle.history_core.proofs.laws.last_states_are_the_last_writers.Goals as goal

pub returns : goal.returns
returns c = λ r g above. last-ends r g above
