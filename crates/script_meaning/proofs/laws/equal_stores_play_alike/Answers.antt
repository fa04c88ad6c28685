use Rattle.script_meaning.proofs.Plays.{equal_stores_play_alike_lem}
use Rattle.script_meaning.proofs.laws.equal_stores_play_alike.Goals as goal

pub returns : goal.returns
returns c = equal_stores_play_alike_lem
