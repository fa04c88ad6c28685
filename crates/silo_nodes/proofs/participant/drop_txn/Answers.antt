use Rattle.std.proofs.Common.{rules, not}
use Rattle.std.proofs.lemmas.Fn.{filter_same}
use Rattle.silo_nodes.specs.Packets.{TxnId, same_txn}
use Rattle.silo_nodes.proofs.participant.drop_txn.Goals as goal

pub returns : goal.returns
returns c = filter_same _ (λ (u : TxnId). not (same_txn u c.args.txn)) _ (λ x b f' t. search rules) _ _ c.retain.ensures.filtered
