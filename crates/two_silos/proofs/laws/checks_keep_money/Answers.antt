use Rattle.two_silos.proofs.CheckedWorld.{check-whole}
use Rattle.two_silos.proofs.laws.checks_keep_money.Goals as goal

pub returns : goal.returns
returns c = check-whole
