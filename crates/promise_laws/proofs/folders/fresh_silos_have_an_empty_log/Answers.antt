use Rattle.promise_laws.proofs.SoundFolders.{fresh}
use Rattle.promise_laws.proofs.folders.fresh_silos_have_an_empty_log.Goals as goal

pub returns : goal.returns
returns c = fresh
