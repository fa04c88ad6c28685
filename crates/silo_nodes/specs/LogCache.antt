-- What a participant keeps beside its log, so that no packet walks it.
use Rattle.std.specs.Prelude.{ℕ, List, [], ◌∷◌, Bool, true, false, not, ◌&&◌, if◌then◌else◌, Option, Some, None, ℤ, ◌+ℤ◌}
use Rattle.std.specs.Prelude.{◌≡◌, IfSome, FitsSigned, slice_get, length, ◌<◌}
use mir.Syntax.{w64}
use Rattle.silo_nodes.specs.Packets.{all, is_apart, Member, GrainId, TxnId, Shift, NodeEntry, Prepared, Done, same_grain}
use Rattle.silo_nodes.specs.Logs.{is_prepared, is_done, shifts_of, balance, undecided}
use Rattle.silo_nodes.specs.SoundLog.{Sound}
use Rattle.silo_nodes.specs.Node.{is_balance, is_busy, can_prepare, log_prepare, log_decision}
pub use Rattle.silo_nodes.specs.declared.cells.Cell.{Cell}
pub use Rattle.silo_nodes.specs.declared.participant.Known.{Known}

-- a grain's cell, none where the grain isn't there
abbrev pub cell : Option ℤ → Bool → Option Cell
cell None busy = None
cell (Some b) busy = Some (record { balance = b; busy = busy })

-- the cell that a grain has by the log
abbrev pub cell_of : (GrainId → Option ℤ) → List NodeEntry → GrainId → Option Cell
cell_of opening log g = cell (balance opening log g) (is_busy log g)

-- a cell after a decision of one shift of it
abbrev pub settled_cell : Bool → ℤ → Option Cell → Option Cell
settled_cell commit d None = None
settled_cell commit d (Some c) = Some (record { balance = if commit then c.balance +ℤ d else c.balance; busy = false })

-- a cell after a decision of these shifts
abbrev pub settled : Bool → List Shift → GrainId → Option Cell → Option Cell
settled commit [] g o = o
settled commit (x ∷ xs) g o = settled commit xs g (if same_grain x.grain g then settled_cell commit x.delta o else o)

-- Each grain stands once among the shifts, and its balance after its shift fits a number.
pub record ShiftsFit (shifts : List Shift) (cells : GrainId → Option Cell) : Type 0 where
  pub apart : is_apart shifts ≡ true
  pub fits : (x : Shift) → Member x shifts → IfSome (cells x.grain) (λ c. FitsSigned w64 (c.balance +ℤ x.delta))

-- the shifts of an entry
abbrev pub entry_shifts : Option NodeEntry → List Shift
entry_shifts None = []
entry_shifts (Some (Prepared t s)) = s
entry_shifts (Some (Done t commit)) = []

-- what is known of a transaction is what the log tells
abbrev pub IsKnown : List NodeEntry → TxnId → Option Known → Type 0
IsKnown log t None = is_prepared log t ≡ false
IsKnown log t (Some k) = (is_prepared log t ≡ true) × (is_done log t ≡ k.done) × (entry_shifts (slice_get log k.at) ≡ shifts_of t log) × (k.at < length log)

-- the opening balances of a list
abbrev pub opening_in : List (GrainId × ℤ) → GrainId → Option ℤ
opening_in [] g = None
opening_in (x ∷ xs) g = if same_grain x.0 g then Some x.1 else opening_in xs g

-- a participant, as callers see it
pub record Node : Type 0 where
  pub number : ℕ
  pub opening : List (GrainId × ℤ)
  pub log : List NodeEntry

-- what is kept follows from the log
pub record FollowsLog (opening : GrainId → Option ℤ) (log : List NodeEntry) (known : TxnId → Option Known) (waiting : List TxnId) (cells : GrainId → Option Cell) : Type 0 where
  pub sound : Sound opening log
  pub waiting_is : waiting ≡ undecided log log
  pub known_is : (t : TxnId) → IsKnown log t (known t)
  pub cells_are : (g : GrainId) → cells g ≡ cell_of opening log g

-- the participant after a decision
abbrev pub decided_at : Node → TxnId → Bool → Node
decided_at n t commit = record n { log = log_decision n.log t commit }

-- nothing is against a shift, by the grain's cell
abbrev pub allows : Option Cell → ℤ → Bool
allows None d = false
allows (Some c) d = not c.busy && is_balance (c.balance +ℤ d)

-- nothing is against any of them
abbrev pub all_allow : (GrainId → Option Cell) → List Shift → Bool
all_allow cells s = all (λ x. allows (cells x.grain) x.delta) s

-- a cell that a prepared transaction keeps busy
abbrev pub held_cell : Option Cell → Option Cell
held_cell None = None
held_cell (Some c) = Some (record c { busy = true })

-- a grain's cell, where a transaction with these shifts is prepared
abbrev pub held : List Shift → GrainId → Option Cell → Option Cell
held [] g o = o
held (x ∷ xs) g o = held xs g (if same_grain x.grain g then held_cell o else o)

-- the participant after a request to prepare
abbrev pub prepared_at : Node → TxnId → List Shift → Node
prepared_at n t s = record n { log = log_prepare (opening_in n.opening) n.log t s }

-- its answer: none where it is done, else its vote
abbrev pub vote_at : Node → TxnId → List Shift → Option Bool
vote_at n t s =
    if is_done n.log t then None
    else if is_prepared n.log t then Some true
    else Some (can_prepare (opening_in n.opening) n.log s)

-- a cell, or that of an opening balance
abbrev pub or_cell : Option Cell → Option ℤ → Option Cell
or_cell (Some c) o = Some c
or_cell None o = cell o false
