-- Transactions, shifts and packets.
use Rattle.std.specs.Prelude.{List, [], ◌∷◌, Bool, true, ◌&&◌, not, ◌==◌, if◌then◌else◌, ℤ, pos, ◌+ℤ◌, ⊤}
pub use Rattle.std.specs.List.{list_any as any, list_all as all}
pub use Rattle.base_types.specs.declared.calls.GrainId.{GrainId}
pub use Rattle.base_types.specs.Grains.{same_grain, is_before}
pub use Rattle.base_types.specs.Lists.{Member}
pub use Rattle.silo_nodes.specs.declared.packets.TxnId.{TxnId}
pub use Rattle.silo_nodes.specs.declared.packets.Shift.{Shift}
pub use Rattle.silo_nodes.specs.declared.packets.Packet.{Packet}
pub use Rattle.silo_nodes.specs.declared.packets.Packet.TheVariants.{Prepare, Vote, Decision, Ask}
pub use Rattle.silo_nodes.specs.declared.packets.NodeEntry.{NodeEntry}
pub use Rattle.silo_nodes.specs.declared.packets.NodeEntry.TheVariants.{Prepared, Done}

-- no element stands twice in the list
abbrev pub Distinct : {A : Type 0} → List A → Type 0
Distinct [] = ⊤
Distinct (x ∷ xs) = (Member x xs → ⊥) × Distinct xs

-- the two are one transaction
abbrev pub same_txn : TxnId → TxnId → Bool
same_txn a b = (a.epoch == b.epoch) && (a.number == b.number)

-- the shifts move that grain
abbrev pub touches : GrainId → List Shift → Bool
touches g s = any (λ x. same_grain x.grain g) s

-- by how much they move it
abbrev pub delta : GrainId → List Shift → ℤ
delta g [] = pos 0
delta g (x ∷ xs) = if same_grain x.grain g then x.delta +ℤ delta g xs else delta g xs

-- no grain stands twice among the shifts
abbrev pub is_apart : List Shift → Bool
is_apart [] = true
is_apart (x ∷ xs) = not (touches x.grain xs) && is_apart xs

-- the grains of the shifts ascend
abbrev pub is_ascending : List Shift → Bool
is_ascending [] = true
is_ascending (x ∷ []) = true
is_ascending (x ∷ y ∷ rest) = is_before x.grain y.grain && is_ascending (y ∷ rest)

-- the transaction that a packet is about
abbrev pub txn_of : Packet → TxnId
txn_of (Prepare t n s) = t
txn_of (Vote t n agrees) = t
txn_of (Decision t n commit) = t
txn_of (Ask t n) = t
