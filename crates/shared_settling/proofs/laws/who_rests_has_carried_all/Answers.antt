use Rattle.shared_settling.proofs.RunEnds.{carried-all}
use Rattle.shared_settling.proofs.laws.who_rests_has_carried_all.Goals as goal

pub returns : goal.returns
returns c = λ tells o b s above units books n. carried-all tells o b s above units books n
