use Rattle.std.proofs.Common.{◌≡◌, ◌++◌, drop}
use Rattle.silo_nodes.specs.Coordinators.{prepare_each}
use Rattle.silo_nodes.proofs.parts.prepare_each.Given as goal

abbrev pub invariant-loop-part : goal.invariant-loop-part
invariant-loop-part l = l.sent.items ++ prepare_each l.txn (drop l.part-index l.parts) ≡ l.fn.sent.items ++ prepare_each l.txn l.parts
