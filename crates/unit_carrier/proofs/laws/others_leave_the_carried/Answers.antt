use Rattle.unit_carrier.proofs.CarriedUnits.{settles-carried, drops-carried, none-carried}
use Rattle.unit_carrier.proofs.laws.others_leave_the_carried.Goals as goal

pub returns-clause-settles : goal.returns-clause-settles
returns-clause-settles c = settles-carried

pub returns-clause-drops : goal.returns-clause-drops
returns-clause-drops c = drops-carried

pub returns-clause-none : goal.returns-clause-none
returns-clause-none c = none-carried
