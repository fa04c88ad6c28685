use Rattle.promise_spec.proofs.Prefixes.{of_itself, over_one_base, back_over_one_base, of_one_position, saved, shorter, stands, both, then_on}
use Rattle.promise_spec.proofs.laws.prefixes_are_an_order.Goals as goal

pub returns-clause-same : goal.returns-clause-same
returns-clause-same c = of_itself

pub returns-clause-one_base : goal.returns-clause-one_base
returns-clause-one_base c = λ a b same. (back_over_one_base a b same, over_one_base a b same)

pub returns-clause-one_position : goal.returns-clause-one_position
returns-clause-one_position c = of_one_position

pub returns-clause-saved : goal.returns-clause-saved
returns-clause-saved c = saved

pub returns-clause-shorter : goal.returns-clause-shorter
returns-clause-shorter c = shorter

pub returns-clause-stands : goal.returns-clause-stands
returns-clause-stands c = stands

pub returns-clause-both : goal.returns-clause-both
returns-clause-both c = both

pub returns-clause-then : goal.returns-clause-then
returns-clause-then c = then_on
