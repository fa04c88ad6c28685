use Rattle.promise_spec.proofs.Openings.{reads_is_log, log_is_read, no_silo_is_read, other_is_read, sound_is_read, whole_read, slot_is_read}
use Rattle.promise_spec.proofs.laws.folders_are_read.Goals as goal

pub returns-clause-slot : goal.returns-clause-slot
returns-clause-slot c = slot_is_read

pub returns-clause-reads : goal.returns-clause-reads
returns-clause-reads c = reads_is_log

pub returns-clause-read : goal.returns-clause-read
returns-clause-read c = log_is_read

pub returns-clause-no_silo : goal.returns-clause-no_silo
returns-clause-no_silo c = no_silo_is_read

pub returns-clause-sound : goal.returns-clause-sound
returns-clause-sound c = sound_is_read

pub returns-clause-other : goal.returns-clause-other
returns-clause-other c = other_is_read

pub returns-clause-whole : goal.returns-clause-whole
returns-clause-whole c = whole_read
