use Rattle.settler_rules.proofs.LoggedUnits.{shown-fit}
use Rattle.settler_rules.proofs.logged_units.shown_versions_fit.Goals as goal

pub returns : goal.returns
returns c = λ s r above keeps kinds g x m. shown-fit s r above keeps kinds g x m
