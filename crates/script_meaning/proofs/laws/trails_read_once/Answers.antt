use Rattle.script_meaning.proofs.SingleReads.{trails_read_once_lem}
use Rattle.script_meaning.proofs.laws.trails_read_once.Goals as goal

pub returns : goal.returns
returns c = trails_read_once_lem
