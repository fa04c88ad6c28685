use Rattle.turn_rules.proofs.WithinWindows.{tests, stays, begins-window, begins-fresh, plain, one-window}
use Rattle.turn_rules.proofs.windows.turns_stay_in_a_window.Goals as goal

pub returns-clause-tests : goal.returns-clause-tests
returns-clause-tests c = tests

pub returns-clause-stays : goal.returns-clause-stays
returns-clause-stays c = stays

pub returns-clause-begins : goal.returns-clause-begins
returns-clause-begins c = begins-window

pub returns-clause-first : goal.returns-clause-first
returns-clause-first c = begins-fresh

pub returns-clause-plain : goal.returns-clause-plain
returns-clause-plain c = plain

pub returns-clause-one : goal.returns-clause-one
returns-clause-one c = one-window
