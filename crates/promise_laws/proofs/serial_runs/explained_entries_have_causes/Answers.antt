use Rattle.promise_laws.proofs.SerialCauses.{explained_causes}
use Rattle.promise_laws.proofs.serial_runs.explained_entries_have_causes.Goals as goal

pub returns : goal.returns
returns c = explained_causes
