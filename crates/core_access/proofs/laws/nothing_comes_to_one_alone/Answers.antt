use Rattle.core_access.proofs.Sights.{looks-alone, tells-alone, reply-alone, run-alone}
use Rattle.core_access.proofs.laws.nothing_comes_to_one_alone.Goals as goal

pub returns-clause-looks : goal.returns-clause-looks
returns-clause-looks c = λ s t l. looks-alone s t l

pub returns-clause-tells : goal.returns-clause-tells
returns-clause-tells c = λ s t e r l. tells-alone s t e r l

pub returns-clause-reply : goal.returns-clause-reply
returns-clause-reply c = λ s t e r l. reply-alone s t e r l

pub returns-clause-run : goal.returns-clause-run
returns-clause-run c = λ s t e r l. run-alone s t e r l
