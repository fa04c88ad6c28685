-- What a coordinator does.
use Rattle.std.specs.Prelude.{ℕ, ◌+◌, List, [], ◌∷◌, ◌++◌, Bool, true, false, not, ◌||◌, ◌==◌, if◌then◌else◌, Option, Some, None, filter, map}
use Rattle.silo_nodes.specs.Packets.{any, all, TxnId, Shift, Packet, Prepare, Vote, Decision, Ask, same_txn}
pub use Rattle.silo_nodes.specs.declared.parts.Part.{Part}
pub use Rattle.silo_nodes.specs.declared.parts.Pending.{Pending}

-- a coordinator, as callers see it: its epoch and its commits are its log, all else a restart loses
pub record Coordination : Type 0 where
  pub epoch : ℕ
  pub number : ℕ  -- the last number that was taken in this epoch
  pub commits : List TxnId
  pub pending : List Pending

-- the first coordinator
abbrev pub idle : Coordination
idle = record { epoch = 0; number = 0; commits = []; pending = [] }

-- the next transaction
abbrev pub next_of : Coordination → TxnId
next_of c = record { epoch = c.epoch; number = c.number + 1 }

-- the participants with shifts, from a number on
abbrev pub parts_from : ℕ → List (List Shift) → List Part
parts_from n [] = []
parts_from n ([] ∷ rest) = parts_from (n + 1) rest
parts_from n ((x ∷ xs) ∷ rest) = record { node = n; shifts = x ∷ xs } ∷ parts_from (n + 1) rest

-- the part of one node, where it has shifts
abbrev pub part_of : ℕ → List Shift → List Part
part_of n [] = []
part_of n (x ∷ xs) = record { node = n; shifts = x ∷ xs } ∷ []

-- the requests to these participants
abbrev pub prepare_each : TxnId → List Part → List Packet
prepare_each t qs = map (λ q. Prepare t q.node q.shifts) qs

-- the decision to these participants
abbrev pub decide_each : TxnId → Bool → List Part → List Packet
decide_each t commit qs = map (λ q. Decision t q.node commit) qs

-- a transaction begins: it takes the next number and waits for its votes; one without parts commits at once
abbrev pub begun : Coordination → List Part → Coordination
begun c [] = record c { number = c.number + 1; commits = c.commits ++ next_of c ∷ [] }
begun c (q ∷ qs) = record c { number = c.number + 1; pending = c.pending ++ record { txn = next_of c; parts = q ∷ qs; yes = [] } ∷ [] }

-- the pending transaction of that name
abbrev pub find : TxnId → List Pending → Option Pending
find t [] = None
find t (p ∷ ps) = if same_txn p.txn t then Some p else find t ps

-- the transaction is in the commits
abbrev pub is_commit : List TxnId → TxnId → Bool
is_commit commits t = any (same_txn t) commits

-- it is no longer pending
abbrev pub without : TxnId → List Pending → List Pending
without t ps = filter (λ p. not (same_txn p.txn t)) ps

-- every participant said yes
abbrev pub is_unanimous : List Part → List ℕ → Bool
is_unanimous qs said = all (λ q. any (λ n. n == q.node) said) qs

-- one who says yes, once
abbrev pub with_yes : ℕ → List ℕ → List ℕ
with_yes n said = if any (λ m. m == n) said then said else said ++ n ∷ []

-- a yes is kept at the transaction of that name
abbrev pub agreed : TxnId → ℕ → List Pending → List Pending
agreed t n [] = []
agreed t n (p ∷ ps) = if same_txn p.txn t then record p { yes = with_yes n p.yes } ∷ ps else p ∷ agreed t n ps

-- a pending transaction is decided
abbrev pub with_decision : Coordination → TxnId → Bool → Coordination
with_decision c t commit = record c { commits = if commit then c.commits ++ t ∷ [] else c.commits; pending = without t c.pending }

-- after a vote: a no ends the transaction, the last yes commits it, any other is kept
abbrev pub voted : Coordination → TxnId → ℕ → Bool → Option Pending → Coordination
voted c t n vote None = c
voted c t n false (Some p) = with_decision c t false
voted c t n true (Some p) = if is_unanimous p.parts (n ∷ p.yes) then with_decision c t true else record c { pending = agreed t n c.pending }

-- what a vote makes it send: the decision to all, or to who votes too late
abbrev pub vote_replies : Coordination → TxnId → ℕ → Bool → Option Pending → List Packet
vote_replies c t n false None = []
vote_replies c t n true None = Decision t n (is_commit c.commits t) ∷ []
vote_replies c t n false (Some p) = decide_each t false p.parts
vote_replies c t n true (Some p) = if is_unanimous p.parts (n ∷ p.yes) then decide_each t true p.parts else []

-- what a question makes it send: the decision, where it isn't pending
abbrev pub ask_replies : Coordination → TxnId → ℕ → Option Pending → List Packet
ask_replies c t n None = Decision t n (is_commit c.commits t) ∷ []
ask_replies c t n (Some p) = []

-- the coordinator after a packet
abbrev pub heard : Coordination → Packet → Coordination
heard c (Prepare t n s) = c
heard c (Vote t n vote) = voted c t n vote (find t c.pending)
heard c (Decision t n commit) = c
heard c (Ask t n) = c

-- what it sends then
abbrev pub replies : Coordination → Packet → List Packet
replies c (Prepare t n s) = []
replies c (Vote t n vote) = vote_replies c t n vote (find t c.pending)
replies c (Decision t n commit) = []
replies c (Ask t n) = ask_replies c t n (find t c.pending)

-- the participant hasn't said yes
abbrev pub is_late : List ℕ → Part → Bool
is_late said q = not (any (λ n. n == q.node) said)

-- what a nudge sends: the request again, to each participant of each pending transaction that hasn't said yes
abbrev pub reminders : List Pending → List Packet
reminders [] = []
reminders (p ∷ ps) = prepare_each p.txn (filter (is_late p.yes) p.parts) ++ reminders ps

-- after a restart: a new epoch, the same commits, nothing pending
abbrev pub restarted : Coordination → Coordination
restarted c = record c { epoch = c.epoch + 1; number = 0; pending = [] }
