use Rattle.promise_examples.proofs.Load.{two_drawn, many, last_deposit, summed}
use Rattle.promise_examples.proofs.examples.loads_draw_and_sum.Goals as goal

pub returns-clause-drawn : goal.returns-clause-drawn
returns-clause-drawn c = two_drawn

pub returns-clause-many : goal.returns-clause-many
returns-clause-many c = many

pub returns-clause-last : goal.returns-clause-last
returns-clause-last c = last_deposit

pub returns-clause-summed : goal.returns-clause-summed
returns-clause-summed c = summed
