use Rattle.promise_laws.proofs.GateBytes.{open_below, short_below, empty_below}
use Rattle.promise_laws.proofs.compaction.closed_slots_stay_below.Goals as goal

pub returns-clause-lower : goal.returns-clause-lower
returns-clause-lower c = open_below

pub returns-clause-short : goal.returns-clause-short
returns-clause-short c = short_below

pub returns-clause-empty : goal.returns-clause-empty
returns-clause-empty c = empty_below
