use Rattle.std.proofs.Common.{refl}
use Rattle.promise_examples.proofs.WrittenUnbrought.{sound_at_entry, wanted, unbrought_shows, unbrought_keeps, unbrought_promises, is_hosted}
use Rattle.promise_examples.proofs.examples.an_unbrought_grain_is_written_out.Goals as goal

pub returns-clause-sound : goal.returns-clause-sound
returns-clause-sound c = sound_at_entry

pub returns-clause-follows : goal.returns-clause-follows
returns-clause-follows c = λ file. refl

pub returns-clause-wanted : goal.returns-clause-wanted
returns-clause-wanted c = wanted

pub returns-clause-shown : goal.returns-clause-shown
returns-clause-shown c = unbrought_shows

pub returns-clause-kept : goal.returns-clause-kept
returns-clause-kept c = unbrought_keeps

pub returns-clause-promised : goal.returns-clause-promised
returns-clause-promised c = unbrought_promises

pub returns-clause-hosted : goal.returns-clause-hosted
returns-clause-hosted c = is_hosted
