use Rattle.promise_spec.proofs.Slots.{one_slot, some_live, live_stays, shows_file}
use Rattle.promise_spec.proofs.checkpoints.one_slot_is_live.Goals as goal

pub returns-clause-one : goal.returns-clause-one
returns-clause-one c = one_slot

pub returns-clause-some : goal.returns-clause-some
returns-clause-some c = some_live

pub returns-clause-stays : goal.returns-clause-stays
returns-clause-stays c = live_stays

pub returns-clause-shows : goal.returns-clause-shows
returns-clause-shows c = shows_file
