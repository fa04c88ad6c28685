use Rattle.cell_memory.proofs.ChangedCells.{lock-stands, raise-stands}
use Rattle.cell_memory.proofs.laws.grants_change_one_cell.Goals as goal

pub returns : goal.returns
returns c = record {
  locks = λ limit cell recent w g x u mode s there. lock-stands limit cell recent w s g x there u mode;
  raises = λ limit cell recent w g x u mode s there. raise-stands limit cell recent w s g x there u mode;
}
