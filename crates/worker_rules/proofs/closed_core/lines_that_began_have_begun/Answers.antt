use Rattle.worker_rules.proofs.Closes.{closed-lines}
use Rattle.worker_rules.proofs.closed_core.lines_that_began_have_begun.Goals as goal

pub returns : goal.returns
returns c = closed-lines
