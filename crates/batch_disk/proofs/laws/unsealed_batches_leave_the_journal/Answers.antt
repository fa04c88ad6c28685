use Rattle.batch_disk.proofs.WriterState.{keeps_log}
use Rattle.batch_disk.proofs.Journal.{as_it_was}
use Rattle.batch_disk.proofs.laws.unsealed_batches_leave_the_journal.Goals as goal

pub returns-clause-votes : goal.returns-clause-votes
returns-clause-votes c live shape head log bodies after old new moments quiet keeps = as_it_was live head log old new quiet moments (keeps_log live shape head log bodies after new.disk keeps)

pub returns-clause-unsealed : goal.returns-clause-unsealed
returns-clause-unsealed c live shape head log bodies effects made before after old new s quiet = as_it_was live head log old new quiet s.stands.0 (keeps_log live shape head log bodies after new.disk s.stands.1)
