use Rattle.core_access.proofs.Sights.{looks-before, tells-before, told-stays}
use Rattle.core_access.proofs.laws.who_is_alone_was_alone.Goals as goal

pub returns-clause-looks : goal.returns-clause-looks
returns-clause-looks c = λ may harmless s t l counts alone. looks-before harmless may s t counts l alone

pub returns-clause-tells : goal.returns-clause-tells
returns-clause-tells c = λ may harmless s t e r l counts alone. tells-before harmless may s t counts e r l alone

pub returns-clause-stays : goal.returns-clause-stays
returns-clause-stays c = λ harmless s e r alone. told-stays harmless s e r alone
