use Rattle.script_meaning.proofs.StepCounts.{while_once}
use Rattle.script_meaning.proofs.laws.loops_go_on.Goals as goal

pub returns : goal.returns
returns c = while_once
