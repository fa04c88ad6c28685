-- The world: a coordinator, its participants, and all packets that were ever sent.
use Rattle.std.specs.Prelude.{◌≡◌, ℕ, ◌+◌, List, [], ◌∷◌, ◌++◌, Bool, true, ◌&&◌, nat_lt, nat_le, if◌then◌else◌, Option, Some, None, is_some, length, get_or, slice_get, slice_set, ℤ}
pub use Rattle.two_silos.specs.Nodes.{Ask, Decision, GrainId, NodeEntry, Packet, Part, Pending, Prepare, Shift, TxnId, Vote}
use Rattle.silo_nodes.specs.Packets.{all, same_txn, is_ascending}
use Rattle.silo_nodes.specs.Logs.{balance}
use Rattle.silo_nodes.specs.Node.{is_balance}
use Rattle.silo_nodes.specs.LogCache.{Node, opening_in}
use Rattle.silo_nodes.specs.Participants.{learned, answers, questions}
pub use Rattle.silo_nodes.specs.Coordinators.{Coordination}
use Rattle.silo_nodes.specs.Coordinators.{idle, next_of, parts_from, prepare_each, begun, heard, replies, reminders, restarted}
pub use Rattle.two_silos.specs.declared.events.WorldEvent.{WorldEvent}
pub use Rattle.two_silos.specs.declared.events.WorldEvent.TheVariants.{Start, Deliver, NudgeCoordinator, Nudge, RestartCoordinator, Restart}

-- the whole state; packets are numbered from 0 in the order in which they were sent
pub record World : Type 0 where
  pub coordinator : Coordination
  pub nodes : List Node
  pub packets : List Packet

-- a participant without grains
abbrev pub nobody : Node
nobody = record { number = 0; opening = []; log = [] }

-- the participant of that number
abbrev pub node_at : List Node → ℕ → Node
node_at nodes n = get_or nodes n nobody

-- its log
abbrev pub log_at : List Node → ℕ → List NodeEntry
log_at nodes n = (node_at nodes n).log

-- its opening balances
abbrev pub opening_at : List Node → ℕ → GrainId → Option ℤ
opening_at nodes n = opening_in (node_at nodes n).opening

-- the participants of these opening balances, numbered from n on
abbrev pub nodes_from : ℕ → List (List (GrainId × ℤ)) → List Node
nodes_from n [] = []
nodes_from n (o ∷ os) = record { number = n; opening = o; log = [] } ∷ nodes_from (n + 1) os

-- the first state: nothing began, nothing was sent
abbrev pub begin : List (List (GrainId × ℤ)) → World
begin openings = record { coordinator = idle; nodes = nodes_from 0 openings; packets = [] }

-- the next transaction
abbrev pub next_txn : World → TxnId
next_txn w = next_of w.coordinator

-- the participant has the grain of a shift
abbrev pub has_grain : Node → Shift → Bool
has_grain x s = is_some (opening_in x.opening s.grain)

-- the participant is there, the grains ascend, and it has them
abbrev pub is_part : List Node → Part → Bool
is_part nodes q = nat_lt q.node (length nodes) && (is_ascending q.shifts && all (has_grain (node_at nodes q.node)) q.shifts)

-- the transaction may begin: at most 8 lists, each list with shifts that of a participant
abbrev pub can_start : World → List (List Shift) → Bool
can_start w lists = nat_le (length lists) 8 && all (is_part w.nodes) (parts_from 0 lists)

-- a transaction begins
abbrev pub started : World → List Part → World
started w qs = record w { coordinator = begun w.coordinator qs; packets = w.packets ++ prepare_each (next_txn w) qs }

-- a packet is handed to the coordinator
abbrev pub told : World → Packet → World
told w k = record w { coordinator = heard w.coordinator k; packets = w.packets ++ replies w.coordinator k }

-- a packet is handed to a participant
abbrev pub handed : World → ℕ → Packet → World
handed w n k = if nat_lt n (length w.nodes) then record w { nodes = slice_set w.nodes n (learned (node_at w.nodes n) k); packets = w.packets ++ answers (node_at w.nodes n) k } else w

-- the participant that a packet is for, none where it is for the coordinator
abbrev pub receiver_of : Packet → Option ℕ
receiver_of (Prepare t n s) = Some n
receiver_of (Vote t n vote) = None
receiver_of (Decision t n commit) = Some n
receiver_of (Ask t n) = None

-- a packet is handed to that receiver
abbrev pub delivered_to : World → Option ℕ → Packet → World
delivered_to w None k = told w k
delivered_to w (Some n) k = handed w n k

-- a packet is handed to its receiver
abbrev pub delivered : World → Packet → World
delivered w k = delivered_to w (receiver_of k) k

-- packets are sent
abbrev pub send : World → List Packet → World
send w ps = record w { packets = w.packets ++ ps }

-- what an event does, but for the limits; a participant's restart keeps its log, from which all else is computed
abbrev pub does : World → WorldEvent → World
does w (Start lists) = if can_start w lists then started w (parts_from 0 lists) else w
does w (Deliver k) = if nat_lt k (length w.packets) then delivered w (get_or w.packets k (Ask (next_txn w) 0)) else w
does w NudgeCoordinator = send w (reminders w.coordinator.pending)
does w (Nudge n) = if nat_lt n (length w.nodes) then send w (questions (node_at w.nodes n)) else w
does w RestartCoordinator = record w { coordinator = restarted w.coordinator }
does w (Restart n) = w

-- no number of an epoch, a transaction or a packet is above 4294967295
abbrev pub is_within : World → Bool
is_within w = nat_le w.coordinator.epoch 4294967295 && (nat_le w.coordinator.number 4294967295 && nat_le (length w.packets) 4294967296)

-- the state after a change; one that would pass a limit changes nothing
abbrev pub within : World → World → World
within w v = if is_within v then v else w

-- the state after an event
abbrev pub step : World → WorldEvent → World
step w e = within w (does w e)

-- the state after a list of events
abbrev pub run : World → List WorldEvent → World
run w [] = w
run w (e ∷ es) = run (step w e) es

-- one transaction's parts are replaced
unfoldable pub put_txn : (TxnId → List Part) → TxnId → List Part → TxnId → List Part
put_txn f t x u = if same_txn u t then x else f u

-- the parts of each transaction, after an event: a start that applies gives the next transaction its parts
abbrev pub parts_with : (TxnId → List Part) → World → WorldEvent → TxnId → List Part
parts_with parts w (Start lists) = if can_start w lists && is_within (does w (Start lists)) then put_txn parts (next_txn w) (parts_from 0 lists) else parts
parts_with parts w (Deliver k) = parts
parts_with parts w NudgeCoordinator = parts
parts_with parts w (Nudge n) = parts
parts_with parts w RestartCoordinator = parts
parts_with parts w (Restart n) = parts

-- the parts of each transaction, after a list of events
abbrev pub parts_after : (TxnId → List Part) → World → List WorldEvent → TxnId → List Part
parts_after parts w [] = parts
parts_after parts w (e ∷ es) = parts_after (parts_with parts w e) (step w e) es

-- the parts of each transaction that these events start in a new world
abbrev pub parts_in : List (List (GrainId × ℤ)) → List WorldEvent → TxnId → List Part
parts_in openings es = parts_after (λ t. []) (begin openings) es

-- each opening balance is from 0 to 9223372036854775807
abbrev pub IsOpening : List (List (GrainId × ℤ)) → Type 0
IsOpening openings = (n : ℕ) (g : GrainId) (b : ℤ) → opening_in (get_or openings n []) g ≡ Some b → is_balance b ≡ true

-- a grain's balance, none where the participant isn't there
abbrev pub balance_of : Option Node → GrainId → Option ℤ
balance_of None g = None
balance_of (Some x) g = balance (opening_in x.opening) x.log g

-- the balance of a grain at the node of this number
abbrev pub balance_in : List Node → ℕ → GrainId → Option ℤ
balance_in nodes n g = balance_of (slice_get nodes n) g

-- some list of events leads there from a first state
pub record IsReachedWorld (w : World) : Type 0 where
  pub openings : List (List (GrainId × ℤ))
  pub balances : IsOpening openings
  pub events : List WorldEvent
  pub is : w ≡ run (begin openings) events
