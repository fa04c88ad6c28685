use Rattle.script_meaning.proofs.Plays.{play_rests_on_reads_lem}
use Rattle.script_meaning.proofs.laws.play_rests_on_reads.Goals as goal

pub returns : goal.returns
returns c = play_rests_on_reads_lem
