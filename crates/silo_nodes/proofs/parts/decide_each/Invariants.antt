use Rattle.std.proofs.Common.{◌≡◌, ◌++◌, drop}
use Rattle.silo_nodes.specs.Coordinators.{decide_each}
use Rattle.silo_nodes.proofs.parts.decide_each.Given as goal

abbrev pub invariant-loop-part : goal.invariant-loop-part
invariant-loop-part l = l.sent.items ++ decide_each l.txn l.commit (drop l.part-index l.parts) ≡ l.fn.sent.items ++ decide_each l.txn l.commit l.parts
