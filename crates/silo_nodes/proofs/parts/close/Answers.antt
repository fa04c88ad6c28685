use Rattle.std.proofs.Common.{rules, not}
use Rattle.std.proofs.lemmas.Fn.{filter_same}
use Rattle.silo_nodes.specs.Packets.{same_txn}
use Rattle.silo_nodes.specs.Coordinators.{Pending}
use Rattle.silo_nodes.proofs.parts.close.Goals as goal

pub returns : goal.returns
returns c = filter_same _ (λ (p : Pending). not (same_txn p.txn c.args.txn)) _ (λ x b f' t. search rules) _ _ c.retain.ensures.filtered
