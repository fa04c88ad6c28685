use Rattle.run_books.proofs.Reliance.{sees-look, sees-tell, sees-both}
use Rattle.run_books.proofs.SettlerSights.{sees-step}
use Rattle.run_books.proofs.shared_steps.calls_see_on.Goals as goal

pub returns-clause-looks : goal.returns-clause-looks
returns-clause-looks g c = λ may s t l. sees-look may s t l

pub returns-clause-tells : goal.returns-clause-tells
returns-clause-tells g c = λ may s t e r l. sees-tell may s t e r l

pub returns-clause-both : goal.returns-clause-both
returns-clause-both g c = λ s t u a b. sees-both s t u a b

pub returns-clause-steps : goal.returns-clause-steps
returns-clause-steps g c = λ may shape s t before after old new result turns.
    sees-step g.H.Host.tells g.H.Host.world g.H.Host.faults may shape before after s t old new result turns
