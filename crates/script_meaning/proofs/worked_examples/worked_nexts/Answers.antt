use Rattle.script_meaning.proofs.Examples.{worked_nexts_lem}
use Rattle.script_meaning.proofs.worked_examples.worked_nexts.Goals as goal

pub returns : goal.returns
returns c = worked_nexts_lem
