-- What a participant's log tells.
use Rattle.std.specs.Prelude.{List, [], ◌∷◌, Bool, false, not, filter, ◌&&◌, if◌then◌else◌, Option, Some, None, ℤ, pos, ◌+ℤ◌}
use Rattle.silo_nodes.specs.Packets.{any, GrainId, TxnId, Shift, NodeEntry, Prepared, Done, same_txn, delta}

-- the entry prepares the transaction
abbrev pub prepares : TxnId → NodeEntry → Bool
prepares t (Prepared u s) = same_txn u t
prepares t (Done u commit) = false

-- the entry ends the transaction
abbrev pub ends : TxnId → NodeEntry → Bool
ends t (Prepared u s) = false
ends t (Done u commit) = same_txn u t

-- the entry commits the transaction
abbrev pub commits : TxnId → NodeEntry → Bool
commits t (Prepared u s) = false
commits t (Done u commit) = same_txn u t && commit

-- the transaction is prepared in this log
abbrev pub is_prepared : List NodeEntry → TxnId → Bool
is_prepared log t = any (prepares t) log

-- the transaction is decided in this log
abbrev pub is_done : List NodeEntry → TxnId → Bool
is_done log t = any (ends t) log

-- the transaction is committed in this log
abbrev pub is_committed : List NodeEntry → TxnId → Bool
is_committed log t = any (commits t) log

-- the shifts that a prepared transaction has here
abbrev pub shifts_of : TxnId → List NodeEntry → List Shift
shifts_of t [] = []
shifts_of t (Prepared u s ∷ es) = if same_txn u t then s else shifts_of t es
shifts_of t (Done u commit ∷ es) = shifts_of t es

-- the transactions that are done, in log order
abbrev pub done_in : List NodeEntry → List TxnId
done_in [] = []
done_in (Prepared t s ∷ es) = done_in es
done_in (Done t commit ∷ es) = t ∷ done_in es

-- by how much an entry moves the grain: a commit, by the shifts that the log has of it
abbrev pub entry_moves : GrainId → List NodeEntry → NodeEntry → ℤ
entry_moves g log (Prepared t s) = pos 0
entry_moves g log (Done t commit) = if commit then delta g (shifts_of t log) else pos 0

-- by how much these entries move it together
abbrev pub moved : GrainId → List NodeEntry → List NodeEntry → ℤ
moved g log [] = pos 0
moved g log (e ∷ es) = entry_moves g log e +ℤ moved g log es

-- a balance that may be missing, moved by so much
abbrev pub moved_by : Option ℤ → ℤ → Option ℤ
moved_by None d = None
moved_by (Some b) d = Some (b +ℤ d)

-- a grain's balance: the opening's plus the shifts of the transactions that are done here as committed
abbrev pub balance : (GrainId → Option ℤ) → List NodeEntry → GrainId → Option ℤ
balance opening log g = moved_by (opening g) (moved g log log)

-- the transactions that these entries prepare and the log doesn't end, in log order
abbrev pub undecided : List NodeEntry → List NodeEntry → List TxnId
undecided log [] = []
undecided log (Prepared t s ∷ es) = if is_done log t then undecided log es else t ∷ undecided log es
undecided log (Done t commit ∷ es) = undecided log es

-- all but that transaction
abbrev pub others : TxnId → List TxnId → List TxnId
others t ts = filter (λ u. not (same_txn u t)) ts
