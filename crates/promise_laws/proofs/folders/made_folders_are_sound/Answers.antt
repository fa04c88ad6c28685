use Rattle.promise_laws.proofs.SoundFolders.{init_keeps, init_makes}
use Rattle.promise_laws.proofs.folders.made_folders_are_sound.Goals as goal

pub returns-clause-init : goal.returns-clause-init
returns-clause-init c = init_keeps

pub returns-clause-makes : goal.returns-clause-makes
returns-clause-makes c = init_makes
