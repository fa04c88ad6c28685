use Rattle.std.proofs.Common.{rules}
use Rattle.turn_cell.proofs.CellRule.{may_join, may_hear}
use Rattle.turn_cell.proofs.cell.TurnCell+T.join.Goals as goal

pub join_seat-requires : goal.join_seat-requires
join_seat-requires g c = (search rules, search rules, search rules, search rules, may_join _ _ _ _ _ _ _ _ (search rules) (search rules) (search rules))

pub load-requires : goal.load-requires
load-requires g c = (search rules, search rules, may_hear _ _ _ _ _ _ (search rules))
