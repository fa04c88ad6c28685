use Rattle.cell_memory.proofs.SpareMemory.{here-still}
use Rattle.cell_memory.proofs.laws.none_leaves_spare_memory.Goals as goal

pub returns : goal.returns
returns c = λ r more g above space here. here-still r more g above space here
