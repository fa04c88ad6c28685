use Rattle.log_reading.proofs.Upgrading.{recorded, records}
use Rattle.log_reading.proofs.body_laws.records_are_read.Goals as goal

pub returns-clause-recorded : goal.returns-clause-recorded
returns-clause-recorded c = recorded

pub returns-clause-records : goal.returns-clause-records
returns-clause-records c = records
