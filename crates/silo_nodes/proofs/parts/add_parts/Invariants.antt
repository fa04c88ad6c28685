use Rattle.std.proofs.Common.{◌≡◌, ◌++◌, drop}
use Rattle.silo_nodes.specs.Coordinators.{parts_from}
use Rattle.silo_nodes.proofs.parts.add_parts.Given as goal

abbrev pub invariant-loop-at : goal.invariant-loop-at
invariant-loop-at l = l.parts.items ++ parts_from l.at (drop l.at l.lists) ≡ l.fn.parts.items ++ parts_from 0 l.lists
