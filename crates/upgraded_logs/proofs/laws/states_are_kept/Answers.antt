use Rattle.upgraded_logs.proofs.KeptGrains.{held, states, others}
use Rattle.upgraded_logs.proofs.Numbers.{numbers}
use Rattle.upgraded_logs.proofs.laws.states_are_kept.Goals as goal

pub returns-clause-held : goal.returns-clause-held
returns-clause-held c = held

pub returns-clause-states : goal.returns-clause-states
returns-clause-states c = states

pub returns-clause-others : goal.returns-clause-others
returns-clause-others c = others

pub returns-clause-numbers : goal.returns-clause-numbers
returns-clause-numbers c = numbers
