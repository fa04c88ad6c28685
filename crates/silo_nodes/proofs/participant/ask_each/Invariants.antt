use Rattle.std.proofs.Common.{◌≡◌, ◌++◌, drop, map}
use Rattle.silo_nodes.specs.Packets.{TxnId, Ask}
use Rattle.silo_nodes.proofs.participant.ask_each.Given as goal

abbrev pub invariant-loop-txn : goal.invariant-loop-txn
invariant-loop-txn l = l.sent.items ++ map (λ (t : TxnId). Ask t l.from) (drop l.txn-index l.txns) ≡ l.fn.sent.items ++ map (λ (t : TxnId). Ask t l.from) l.txns
