use Rattle.batch_disk.proofs.WriterState.{keeps_fits, keeps_log}
use Rattle.batch_disk.proofs.laws.writers_know_the_log.Goals as goal

pub returns-clause-logs : goal.returns-clause-logs
returns-clause-logs c live shape head log bodies writer disk keeps image left = keeps_log live shape head log bodies writer disk keeps image left

pub returns-clause-header : goal.returns-clause-header
returns-clause-header c live shape head log bodies writer disk keeps image left = (keeps.images image left).header

pub returns-clause-fits : goal.returns-clause-fits
returns-clause-fits c shape head log bodies writer disk keeps seen = keeps_fits writer.slot shape head log bodies writer disk keeps seen
