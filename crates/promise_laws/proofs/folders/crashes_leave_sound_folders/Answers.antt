use Rattle.promise_laws.proofs.CallMoments.{obeying_moments}
use Rattle.promise_laws.proofs.SoundFolders.{restarts, restarts_at}
use Rattle.promise_laws.proofs.folders.crashes_leave_sound_folders.Goals as goal

pub returns-clause-moments : goal.returns-clause-moments
returns-clause-moments c command bank r is = obeying_moments command bank r is.checked is.text

pub returns-clause-restart : goal.returns-clause-restart
returns-clause-restart c = restarts

pub returns-clause-restart_at : goal.returns-clause-restart_at
returns-clause-restart_at c = restarts_at
