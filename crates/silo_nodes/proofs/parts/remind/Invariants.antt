use Rattle.std.proofs.Common.{◌≡◌, ◌++◌, drop, filter}
use Rattle.silo_nodes.specs.Coordinators.{prepare_each, is_late}
use Rattle.silo_nodes.proofs.parts.remind.Given as goal

abbrev pub invariant-loop-part : goal.invariant-loop-part
invariant-loop-part l = l.sent.items ++ prepare_each l.txn (filter (is_late l.said) (drop l.part-index l.parts)) ≡ l.fn.sent.items ++ prepare_each l.txn (filter (is_late l.said) l.parts)
