use Rattle.core_access.proofs.Growth.{looks-grow, tells-grow}
use Rattle.core_access.proofs.laws.what_was_seen_only_grows.Goals as goal

pub returns-clause-looks : goal.returns-clause-looks
returns-clause-looks c = λ may s t l. looks-grow may s t l

pub returns-clause-tells : goal.returns-clause-tells
returns-clause-tells c = λ may s t e r l. tells-grow may s t e r l
