use Rattle.worker_rules.proofs.CallPromises.{alone-quiet, quiet-alone}
use Rattle.worker_rules.proofs.unit_ownership.one_alone_with_a_unit_hears_nothing.Goals as goal

pub returns-clause-quiet : goal.returns-clause-quiet
returns-clause-quiet c = λ u s alone. alone-quiet u s alone

pub returns-clause-alone : goal.returns-clause-alone
returns-clause-alone c = λ u s quiet is. quiet-alone u s quiet is
