use Rattle.settler_rules.proofs.LoggedUnits.{write-once}
use Rattle.settler_rules.proofs.logged_units.plays_write_once.Goals as goal

pub returns : goal.returns
returns c = λ types. write-once types
