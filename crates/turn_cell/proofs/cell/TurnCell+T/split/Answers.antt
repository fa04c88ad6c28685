use Rattle.std.proofs.Common.{rules}
use Rattle.turn_cell.proofs.CellRule.{may_split}
use Rattle.turn_cell.proofs.cell.TurnCell+T.split.Goals as goal

pub split_seat-other-requires : goal.split_seat-other-requires
split_seat-other-requires g c = (search rules, search rules, may_split _ _ _ _ _ (search rules))
