use Rattle.script_meaning.proofs.Examples.{worked_plays_lem}
use Rattle.script_meaning.proofs.worked_examples.worked_plays.Goals as goal

pub returns : goal.returns
returns c = worked_plays_lem
