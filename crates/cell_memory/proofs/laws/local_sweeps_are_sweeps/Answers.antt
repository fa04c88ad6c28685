use Rattle.cell_memory.proofs.EveryEvent.{local}
use Rattle.cell_memory.proofs.laws.local_sweeps_are_sweeps.Goals as goal

pub returns : goal.returns
returns c = λ r e limit cell recent above a s. local r e limit cell recent above a s
