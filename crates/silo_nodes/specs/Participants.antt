-- What a participant does with a packet.
use Rattle.std.specs.Prelude.{◌≡◌, ℕ, List, [], ◌∷◌, Bool, true, ◌==◌, if◌then◌else◌, map, ⊤}
use Rattle.silo_nodes.specs.Packets.{TxnId, Shift, Packet, Prepare, Vote, Decision, Ask, NodeEntry, is_apart}
use Rattle.silo_nodes.specs.Node.{vote_on}
use Rattle.silo_nodes.specs.Logs.{undecided}
use Rattle.silo_nodes.specs.LogCache.{Node, opening_in, prepared_at, decided_at}

-- the shifts of a request are of different grains
abbrev pub IsApart : Packet → Type 0
IsApart (Prepare t n s) = is_apart s ≡ true
IsApart (Vote t n vote) = ⊤
IsApart (Decision t n commit) = ⊤
IsApart (Ask t n) = ⊤

-- the participant after a packet; one for another receiver is ignored
abbrev pub learned : Node → Packet → Node
learned n (Prepare t to s) = if to == n.number then prepared_at n t s else n
learned n (Vote t from' vote) = n
learned n (Decision t to commit) = if to == n.number then decided_at n t commit else n
learned n (Ask t from') = n

-- what it sends then
abbrev pub answers : Node → Packet → List Packet
answers n (Prepare t to s) = if to == n.number then vote_on (opening_in n.opening) n.log n.number t s else []
answers n (Vote t from' vote) = []
answers n (Decision t to commit) = []
answers n (Ask t from') = []

-- what a nudge sends: a question for each transaction that is prepared and not decided
abbrev pub questions : Node → List Packet
questions n = map (λ t. Ask t n.number) (undecided n.log n.log)
