use Rattle.script_meaning.proofs.Plays.{faults_are_known_lem}
use Rattle.script_meaning.proofs.laws.faults_are_known.Goals as goal

pub returns : goal.returns
returns c = faults_are_known_lem
