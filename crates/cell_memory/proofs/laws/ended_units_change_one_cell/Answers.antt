use Rattle.cell_memory.proofs.ChangedCells.{release-stands, learn-stands}
use Rattle.cell_memory.proofs.laws.ended_units_change_one_cell.Goals as goal

pub returns : goal.returns
returns c = record {
  releases = λ limit cell recent w g x u s there. release-stands limit cell recent w s g x there u;
  learns = λ limit cell recent w g x u s there. learn-stands limit cell recent w s g x there u;
}
