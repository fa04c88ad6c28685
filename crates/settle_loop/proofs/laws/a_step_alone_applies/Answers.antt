use Rattle.core_access.proofs.Sights.{run-alone}
use Rattle.settle_loop.proofs.LoneSteps.{alone-applies}
use Rattle.settle_loop.proofs.laws.a_step_alone_applies.Goals as goal

pub returns-clause-run : goal.returns-clause-run
returns-clause-run c = λ s t e r told. run-alone s t e r told

pub returns-clause-applies : goal.returns-clause-applies
returns-clause-applies c = λ s t e r told makes. alone-applies s t e r told makes
