use Rattle.interleaver.proofs.RunContinuation.{can-again, fresh-again}
use Rattle.interleaver.proofs.laws.who_has_carried_all_can_go_on.Goals as goal

pub returns-clause-can : goal.returns-clause-can
returns-clause-can c = λ tells o b s kept all lines numbers. can-again tells o b s kept all lines numbers

pub returns-clause-fresh : goal.returns-clause-fresh
returns-clause-fresh c = λ tells o b s kept all rest next used picks. fresh-again tells o b s kept all rest next used picks
