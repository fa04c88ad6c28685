use Rattle.script_meaning.proofs.Plays.{play_is_next_lem}
use Rattle.script_meaning.proofs.laws.play_is_next.Goals as goal

pub returns : goal.returns
returns c = play_is_next_lem
