use Rattle.core_access.proofs.Sights.{looks-counts, tells-counts}
use Rattle.core_access.proofs.laws.own_entries_are_counted.Goals as goal

pub returns-clause-looks : goal.returns-clause-looks
returns-clause-looks c = λ may s t l counts. looks-counts may s t l counts

pub returns-clause-tells : goal.returns-clause-tells
returns-clause-tells c = λ may s t e r l counts. tells-counts may s t e r l counts
