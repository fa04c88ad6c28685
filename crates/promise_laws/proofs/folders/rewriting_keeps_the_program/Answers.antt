use Rattle.promise_laws.proofs.SamePrograms.{upgrade_stays, compact_stays, migrate_stays}
use Rattle.promise_laws.proofs.folders.rewriting_keeps_the_program.Goals as goal

pub returns-clause-upgrade : goal.returns-clause-upgrade
returns-clause-upgrade c = upgrade_stays

pub returns-clause-migrate : goal.returns-clause-migrate
returns-clause-migrate c = migrate_stays

pub returns-clause-compact : goal.returns-clause-compact
returns-clause-compact c = compact_stays
