use Rattle.promise_laws.proofs.SettledLogs.{settled_logs}
use Rattle.promise_laws.proofs.steps.settled_folders_have_one_log.Goals as goal

pub returns : goal.returns
returns c format live w disk log sound seen stays is = settled_logs format live w disk log sound seen stays is
