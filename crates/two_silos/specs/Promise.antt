-- What holds after every list of events.
use Rattle.std.specs.Prelude.{ℕ, List, [], ◌∷◌, ◌++◌, Bool, true, false, if◌then◌else◌, ◌≡◌, ◌⊎◌, Option, Some, None, ℤ, pos, ◌+ℤ◌, ◌==◌, filter}
use Rattle.two_silos.specs.Nodes.{Done, GrainId, NodeEntry, Packet, Part, Pending, Prepared, Shift, TxnId, Vote}
use Rattle.silo_nodes.specs.Packets.{Member, Distinct, delta, touches, txn_of}
use Rattle.silo_nodes.specs.Logs.{is_prepared, is_done, is_committed, shifts_of, done_in, balance}
use Rattle.silo_nodes.specs.Node.{is_balance, vote_on}
pub use Rattle.two_silos.specs.World.{IsOpening}
use Rattle.two_silos.specs.World.{World, next_txn, log_at, opening_at}

-- by how much the commits of this list that are done at a node move a grain there
abbrev pub commit_moves : GrainId → List NodeEntry → TxnId → ℤ
commit_moves g log t = if is_committed log t then delta g (shifts_of t log) else pos 0

-- by how much these transactions move a grain of this log, added up in their order
abbrev pub in_order : GrainId → List NodeEntry → List TxnId → ℤ
in_order g log [] = pos 0
in_order g log (t ∷ ts) = commit_moves g log t +ℤ in_order g log ts

-- A commit that is done is a commit of the coordinator's, and an abort that is done is none. A transaction is done once.
pub record DecisionsAreKept (w : World) : Type 0 where
  pub commit : (n : ℕ) (t : TxnId) → Member (Done t true) (log_at w.nodes n) → Member t w.coordinator.commits
  pub abort : (n : ℕ) (t : TxnId) → Member (Done t false) (log_at w.nodes n) → Member t w.coordinator.commits → ⊥
  pub once : (n : ℕ) → Distinct (done_in (log_at w.nodes n))

-- each commit is prepared at each participant with shifts of it
abbrev pub CommitsArePrepared : (TxnId → List Part) → World → Type 0
CommitsArePrepared parts w = (t : TxnId) (q : Part) → Member t w.coordinator.commits → Member q (parts t) → Member (Prepared t q.shifts) (log_at w.nodes q.node)

-- a balance is the opening's plus the shifts of the commits that are done there, in the coordinator's order, and may be
pub record BalanceFollows (w : World) (n : ℕ) (g : GrainId) (opening : ℤ) : Type 0 where
  pub sum : balance (opening_at w.nodes n) (log_at w.nodes n) g ≡ Some (opening +ℤ in_order g (log_at w.nodes n) w.coordinator.commits)
  pub range : is_balance (opening +ℤ in_order g (log_at w.nodes n) w.coordinator.commits) ≡ true

-- what is against a shift: an undecided transaction of the same grain, a grain that isn't there, or a balance that may not be
abbrev pub Against : (GrainId → Option ℤ) → List NodeEntry → Shift → Type 0
Against opening log x =
    ((u : TxnId) × (r : List Shift) × Member (Prepared u r) log × (is_done log u ≡ false) × (touches x.grain r ≡ true))
    ⊎ (opening x.grain ≡ None)
    ⊎ ((b : ℤ) × (balance opening log x.grain ≡ Some b) × (is_balance (b +ℤ x.delta) ≡ false))

-- A node says no exactly where it hasn't prepared the transaction, isn't done with it, and something is against one of its
-- shifts. Where it is done it says nothing, and where it has prepared it says yes.
pub record NoIsExact (opening : GrainId → Option ℤ) (log : List NodeEntry) (n : ℕ) (t : TxnId) (s : List Shift) : Type 0 where
  pub reason : vote_on opening log n t s ≡ Vote t n false ∷ [] → (is_done log t ≡ false) × (is_prepared log t ≡ false) × (x : Shift) × Member x s × Against opening log x
  pub always : is_done log t ≡ false → is_prepared log t ≡ false → (x : Shift) → Member x s → Against opening log x → vote_on opening log n t s ≡ Vote t n false ∷ []
  pub silent : is_done log t ≡ true → vote_on opening log n t s ≡ []
  pub again : is_done log t ≡ false → is_prepared log t ≡ true → vote_on opening log n t s ≡ Vote t n true ∷ []

-- the number that the next transaction gets is new: nothing was sent, logged or kept of it
pub record NumberIsNew (w : World) : Type 0 where
  pub commits : Member (next_txn w) w.coordinator.commits → ⊥
  pub pending : (p : Pending) → Member p w.coordinator.pending → p.txn ≡ next_txn w → ⊥
  pub packets : (k : Packet) → Member k w.packets → txn_of k ≡ next_txn w → ⊥
  pub prepared : (n : ℕ) (s : List Shift) → Member (Prepared (next_txn w) s) (log_at w.nodes n) → ⊥
  pub done : (n : ℕ) (c : Bool) → Member (Done (next_txn w) c) (log_at w.nodes n) → ⊥

-- the shifts of one participant
abbrev pub part_at : ℕ → List Part → List Shift
part_at n [] = []
part_at n (q ∷ qs) = if q.node == n then q.shifts else part_at n qs

-- by how much these transactions move a grain of a node, as they were started
abbrev pub all_moves : (TxnId → List Part) → ℕ → GrainId → List TxnId → ℤ
all_moves parts n g [] = pos 0
all_moves parts n g (t ∷ ts) = delta g (part_at n (parts t)) +ℤ all_moves parts n g ts

-- the node waits for no decision
abbrev pub IsQuietWorld : World → ℕ → Type 0
IsQuietWorld w n = (t : TxnId) (s : List Shift) → Member (Prepared t s) (log_at w.nodes n) → is_done (log_at w.nodes n) t ≡ true

-- Where a node waits for nothing, its balances are the opening's with all that the commits move there.
abbrev pub QuietIsWhole : (TxnId → List Part) → World → Type 0
QuietIsWhole parts w = (n : ℕ) → IsQuietWorld w n → (g : GrainId) (b : ℤ) → opening_at w.nodes n g ≡ Some b → balance (opening_at w.nodes n) (log_at w.nodes n) g ≡ Some (b +ℤ all_moves parts n g w.coordinator.commits)

-- the transactions that are done as committed, in log order
abbrev pub done_commits : List NodeEntry → List TxnId
done_commits [] = []
done_commits (Prepared t s ∷ es) = done_commits es
done_commits (Done t commit ∷ es) = if commit then t ∷ done_commits es else done_commits es

-- the transaction moves that grain of the node
abbrev pub moves_at : (TxnId → List Part) → ℕ → GrainId → TxnId → Bool
moves_at parts n g t = touches g (part_at n (parts t))

-- Of the transactions that move a grain, a node has done the coordinator's commits in their order, but for the last one at most.
abbrev pub OrderAgrees : (TxnId → List Part) → World → Type 0
OrderAgrees parts w = (n : ℕ) (g : GrainId) → (rest : List TxnId)
    × (filter (moves_at parts n g) w.coordinator.commits ≡ filter (moves_at parts n g) (done_commits (log_at w.nodes n)) ++ rest)
    × ((rest ≡ []) ⊎ ((u : TxnId) × (rest ≡ u ∷ []) × (is_done (log_at w.nodes n) u ≡ false)))
