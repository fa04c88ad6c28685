use Rattle.promise_laws.proofs.KeptRuns.{opens_whole}
use Rattle.promise_laws.proofs.whole_folders.read_folders_open.Goals as goal

pub returns : goal.returns
returns c p r course mid behind whole stay stay_mid = opens_whole p r course mid behind whole stay stay_mid
