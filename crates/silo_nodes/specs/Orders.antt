-- The order of transactions, and what is kept at one.
use Rattle.std.specs.Prelude.{◌≡◌, ℕ, List, Bool, true, Option, Some, None, is_some, if◌then◌else◌}
use Rattle.std.specs.declared.cmp.Ordering.{Ordering}
use Rattle.std.specs.Ordering.{nat_cmp, then_cmp, on}
use Rattle.std.specs.BTreeMap.{BTreeMap, get}
use Rattle.silo_nodes.specs.Packets.{TxnId, same_txn}
use Rattle.silo_nodes.specs.Coordinators.{is_commit}
use Rattle.silo_nodes.specs.declared.participant.Known.{Known}

-- by epoch, then number
abbrev pub txn_cmp : TxnId → TxnId → Ordering
txn_cmp = then_cmp (on (λ t. t.epoch) nat_cmp) (on (λ t. t.number) nat_cmp)

-- that a transaction is done
abbrev pub ended : Option Known → Option Known
ended None = None
ended (Some k) = Some (record k { done = true })

-- that transaction is done now, and all else is as it was
abbrev pub MarksDone : BTreeMap TxnId Known → BTreeMap TxnId Known → TxnId → Type 0
MarksDone old new t = (u : TxnId) → get txn_cmp new u ≡ (if same_txn t u then ended (get txn_cmp old u) else get txn_cmp old u)

-- the transactions that have a place are the commits
abbrev pub IsPlaced : List TxnId → (TxnId → Option ℕ) → Type 0
IsPlaced commits place = (t : TxnId) → is_some (place t) ≡ is_commit commits t
