use Rattle.commit_log.proofs.Agreement.{bodies_agree, body_is_logged}
use Rattle.commit_log.proofs.laws.readings_agree.Goals as goal

pub returns-clause-agree : goal.returns-clause-agree
returns-clause-agree c = bodies_agree

pub returns-clause-sound : goal.returns-clause-sound
returns-clause-sound c = body_is_logged
