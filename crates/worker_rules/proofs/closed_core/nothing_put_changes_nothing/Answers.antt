use Rattle.worker_rules.proofs.Closes.{closed-same}
use Rattle.worker_rules.proofs.closed_core.nothing_put_changes_nothing.Goals as goal

pub returns : goal.returns
returns c = closed-same
