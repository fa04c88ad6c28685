use Rattle.script_meaning.proofs.Plays.{next_is_missing_lem}
use Rattle.script_meaning.proofs.laws.next_is_missing.Goals as goal

pub returns : goal.returns
returns c = next_is_missing_lem
