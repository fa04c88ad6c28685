use Rattle.commit_log.proofs.Migrating.{spelled, body, piece}
use Rattle.commit_log.proofs.laws.bodies_migrate.Goals as goal

pub returns-clause-spelled : goal.returns-clause-spelled
returns-clause-spelled c = spelled

pub returns-clause-body : goal.returns-clause-body
returns-clause-body c = body

pub returns-clause-piece : goal.returns-clause-piece
returns-clause-piece c = piece
