use Rattle.core_access.proofs.Sights.{looks-none, looks-on, tells-on}
use Rattle.core_access.proofs.laws.calls_follow_one_another.Goals as goal

pub returns-clause-none : goal.returns-clause-none
returns-clause-none c = λ may s. looks-none may s

pub returns-clause-looks : goal.returns-clause-looks
returns-clause-looks c = λ may s t u a b. looks-on may s t u a b

pub returns-clause-tells : goal.returns-clause-tells
returns-clause-tells c = λ may s t u e r a l. tells-on may s t u a e r l
