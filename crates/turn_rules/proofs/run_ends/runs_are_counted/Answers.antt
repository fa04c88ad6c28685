use Rattle.turn_rules.proofs.RunCounts.{counted-ends}
use Rattle.turn_rules.proofs.run_ends.runs_are_counted.Goals as goal

pub returns : goal.returns
returns c = counted-ends
