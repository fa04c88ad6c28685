use Rattle.promise_examples.proofs.Readings.{old_folders_read}
use Rattle.promise_examples.proofs.examples.formats_are_told_apart.Goals as goal

pub returns-clause-old : goal.returns-clause-old
returns-clause-old c = old_folders_read.old

pub returns-clause-new : goal.returns-clause-new
returns-clause-new c = old_folders_read.new

pub returns-clause-read : goal.returns-clause-read
returns-clause-read c = old_folders_read.read

pub returns-clause-migrated : goal.returns-clause-migrated
returns-clause-migrated c = old_folders_read.migrated
