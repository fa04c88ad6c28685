use Rattle.script_meaning.proofs.Plays.{plays_are_orderly_lem}
use Rattle.script_meaning.proofs.laws.plays_are_orderly.Goals as goal

pub returns : goal.returns
returns c = plays_are_orderly_lem
