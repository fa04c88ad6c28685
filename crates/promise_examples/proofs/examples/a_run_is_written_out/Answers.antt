use Rattle.promise_examples.proofs.AccountText.{account_is_checked}
use Rattle.promise_examples.proofs.WrittenRun.{sound_at_entry, is_deposit_run, written_keeps, written_promises, is_hosted}
use Rattle.promise_examples.proofs.examples.a_run_is_written_out.Goals as goal

pub returns-clause-checked : goal.returns-clause-checked
returns-clause-checked c = account_is_checked

pub returns-clause-sound : goal.returns-clause-sound
returns-clause-sound c = sound_at_entry

pub returns-clause-run : goal.returns-clause-run
returns-clause-run c = is_deposit_run

pub returns-clause-kept : goal.returns-clause-kept
returns-clause-kept c = written_keeps

pub returns-clause-promised : goal.returns-clause-promised
returns-clause-promised c = written_promises

pub returns-clause-hosted : goal.returns-clause-hosted
returns-clause-hosted c = is_hosted
