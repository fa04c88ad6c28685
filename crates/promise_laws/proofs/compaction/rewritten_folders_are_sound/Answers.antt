use Rattle.promise_laws.proofs.RewrittenFolders.{compacting_sound, migrating_sound}
use Rattle.promise_laws.proofs.compaction.rewritten_folders_are_sound.Goals as goal

pub returns-clause-saved : goal.returns-clause-saved
returns-clause-saved c from to live log m either order = compacting_sound from to live log m either (order.serial, order.numbered)

pub returns-clause-same : goal.returns-clause-same
returns-clause-same c from to live log m either order = migrating_sound from to live log m either (order.serial, order.numbered)
