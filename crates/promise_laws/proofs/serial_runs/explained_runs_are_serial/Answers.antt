use Rattle.promise_laws.proofs.SerialRecords.{explained_serial}
use Rattle.promise_laws.proofs.serial_runs.explained_runs_are_serial.Goals as goal

pub returns : goal.returns
returns c = explained_serial
