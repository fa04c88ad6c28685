use Rattle.turn_rules.specs.NextEvent.{MayCome}
use Rattle.worker_rules.proofs.WholeHistories.{alone-with}
use Rattle.worker_rules.proofs.unit_ownership.who_began_a_unit_is_alone_with_it.Goals as goal

pub returns : goal.returns
returns c = λ b s u legal all is began. alone-with (MayCome b) s.first s.seen legal all s.number s.mine u is began.0 began.1 began.2
