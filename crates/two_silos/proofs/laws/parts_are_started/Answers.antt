use Rattle.two_silos.proofs.StartedTransactions.{started-ends}
use Rattle.two_silos.proofs.laws.parts_are_started.Goals as goal

pub returns : goal.returns
returns c = λ parts w lists more can within. started-ends parts w lists more can within
