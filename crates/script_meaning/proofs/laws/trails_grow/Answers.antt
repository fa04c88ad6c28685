use Rattle.script_meaning.proofs.Plays.{trails_grow_lem}
use Rattle.script_meaning.proofs.laws.trails_grow.Goals as goal

pub returns : goal.returns
returns c = trails_grow_lem
