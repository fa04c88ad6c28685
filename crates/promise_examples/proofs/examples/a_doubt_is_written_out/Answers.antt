use Rattle.promise_examples.proofs.WrittenDoubt.{sound_at_entry, is_doubt_run, doubted_keeps, doubted_promises, is_hosted}
use Rattle.promise_examples.proofs.examples.a_doubt_is_written_out.Goals as goal

pub returns-clause-sound : goal.returns-clause-sound
returns-clause-sound c = sound_at_entry

pub returns-clause-run : goal.returns-clause-run
returns-clause-run c = is_doubt_run

pub returns-clause-kept : goal.returns-clause-kept
returns-clause-kept c = doubted_keeps

pub returns-clause-promised : goal.returns-clause-promised
returns-clause-promised c = doubted_promises

pub returns-clause-hosted : goal.returns-clause-hosted
returns-clause-hosted c = is_hosted
