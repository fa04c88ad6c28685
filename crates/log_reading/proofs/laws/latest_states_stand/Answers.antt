use Rattle.log_reading.specs.Versions.{named_by_grain}
use Rattle.log_reading.proofs.LatestVersions.{latest_ascend, latest_leave, latest_named, latest_among}
use Rattle.log_reading.proofs.laws.latest_states_stand.Goals as goal

pub returns-clause-order : goal.returns-clause-order
returns-clause-order c = latest_ascend

pub returns-clause-states : goal.returns-clause-states
returns-clause-states c live format shape image state named = latest_leave live format shape image state named

pub returns-clause-held : goal.returns-clause-held
returns-clause-held c named grain = latest_named grain named

pub returns-clause-among : goal.returns-clause-among
returns-clause-among c named n is = latest_among n (named_by_grain named) is
