use Rattle.log_reading.proofs.Upgrading.{spelled, read}
use Rattle.log_reading.proofs.body_laws.upgrades_are_read.Goals as goal

pub returns-clause-spelled : goal.returns-clause-spelled
returns-clause-spelled c = spelled

pub returns-clause-read : goal.returns-clause-read
returns-clause-read c = read
