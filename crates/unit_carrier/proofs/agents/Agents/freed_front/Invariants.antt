use Rattle.std.proofs.Common.{◌-◌, length}
use Rattle.unit_carrier.specs.CarriedUnits.{AreFreed}
use Rattle.unit_carrier.proofs.agents.Agents.freed_front.Given as goal

abbrev pub invariant-loop-front : goal.invariant-loop-front
invariant-loop-front l = AreFreed l.front l.self.list.items

abbrev pub decreases-loop-front : goal.decreases-loop-front
decreases-loop-front l = length l.self.list.items - l.front
