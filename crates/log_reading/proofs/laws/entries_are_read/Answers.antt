use Rattle.log_reading.proofs.EntriesRead.{reads, only, sessions, greatest}
use Rattle.log_reading.proofs.laws.entries_are_read.Goals as goal

pub returns-clause-reads : goal.returns-clause-reads
returns-clause-reads c = reads

pub returns-clause-only : goal.returns-clause-only
returns-clause-only c = only

pub returns-clause-sessions : goal.returns-clause-sessions
returns-clause-sessions c = sessions

pub returns-clause-last : goal.returns-clause-last
returns-clause-last c = greatest
