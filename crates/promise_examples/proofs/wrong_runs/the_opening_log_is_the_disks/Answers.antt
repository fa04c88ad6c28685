use Rattle.promise_examples.proofs.WrongRuns.{read_at_entry, opening_is}
use Rattle.promise_examples.proofs.wrong_runs.the_opening_log_is_the_disks.Goals as goal

pub returns-clause-entry : goal.returns-clause-entry
returns-clause-entry c = read_at_entry

pub returns-clause-synced : goal.returns-clause-synced
returns-clause-synced c = opening_is
