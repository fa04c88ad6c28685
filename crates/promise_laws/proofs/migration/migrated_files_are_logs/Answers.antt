use Rattle.promise_laws.proofs.MigratedLogs.{migrated_log, small_bodies, generation_is}
use Rattle.promise_laws.proofs.migration.migrated_files_are_logs.Goals as goal

pub returns-clause-log : goal.returns-clause-log
returns-clause-log c live slot old new log p read g rest is program_is read_is text copied written =
    migrated_log live old log is slot new p read g rest program_is read_is text copied written

pub returns-clause-small : goal.returns-clause-small
returns-clause-small c = small_bodies

pub returns-clause-generation : goal.returns-clause-generation
returns-clause-generation c = generation_is
