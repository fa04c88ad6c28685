use Rattle.turn_rules.specs.NextEvent.{MayCome}
use Rattle.worker_rules.proofs.OwnEntries.{promise-none, promise-sees, promise-adds}
use Rattle.worker_rules.proofs.promises.promises_go_on.Goals as goal

pub returns-clause-none : goal.returns-clause-none
returns-clause-none c = λ s. promise-none (MayCome s)

pub returns-clause-sees : goal.returns-clause-sees
returns-clause-sees c = λ s. promise-sees (MayCome s)

pub returns-clause-adds : goal.returns-clause-adds
returns-clause-adds c = λ s. promise-adds (MayCome s)
