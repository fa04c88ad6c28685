use Rattle.std.proofs.Common.{rules}
use Rattle.turn_cell.proofs.CellRule.{may_load, may_try}
use Rattle.turn_cell.proofs.turn.TurnCell+T.win_turn.Goals as goal

pub load-word-requires : goal.load-word-requires
load-word-requires g c = (search rules, search rules, may_load _ _ _ _ _ _)

pub compare_exchange-requires : goal.compare_exchange-requires
compare_exchange-requires g c = (search rules, search rules, may_try _ _ _ _ _ _ _ (search rules) (search rules))
