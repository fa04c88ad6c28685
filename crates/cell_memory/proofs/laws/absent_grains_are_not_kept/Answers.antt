use Rattle.cell_memory.proofs.ChangedCells.{load-stands, learn-away}
use Rattle.cell_memory.proofs.laws.absent_grains_are_not_kept.Goals as goal

pub returns : goal.returns
returns c = record {
  loads = λ limit cell recent w g u state s gone. load-stands limit cell recent w s g u state gone;
  leaves = λ limit cell recent w g u s gone. learn-away limit cell recent w s u g gone;
}
