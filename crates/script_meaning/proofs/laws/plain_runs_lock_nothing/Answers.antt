use Rattle.script_meaning.proofs.Plays.{plain_runs_lock_nothing_lem}
use Rattle.script_meaning.proofs.laws.plain_runs_lock_nothing.Goals as goal

pub returns : goal.returns
returns c = plain_runs_lock_nothing_lem
