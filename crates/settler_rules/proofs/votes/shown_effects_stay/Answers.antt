use Rattle.settler_rules.proofs.SealWork.{shown-stay}
use Rattle.settler_rules.proofs.votes.shown_effects_stay.Goals as goal

pub returns : goal.returns
returns c = λ r above e others. shown-stay r above e others
