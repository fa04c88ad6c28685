use Rattle.promise_spec.specs.Entries.{after_entries}
use Rattle.promise_spec.specs.Blocks.{base_of}
use Rattle.promise_spec.proofs.Growing.{plain_base, plain_entries}
use Rattle.promise_spec.proofs.SavedStandings.{stands_alike, stands_for}
use Rattle.promise_spec.proofs.checkpoints.checkpoints_stand_for_logs.Goals as goal

pub returns-clause-standing : goal.returns-clause-standing
returns-clause-standing c p b entries ck is = stands_alike (after_entries (base_of p b) entries) ck (plain_entries (base_of p b) entries (plain_base p b)) is

pub returns-clause-log : goal.returns-clause-log
returns-clause-log c = stands_for
