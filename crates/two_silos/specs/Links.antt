-- What a call on one node does, where what it sends has room.
use Rattle.std.specs.Prelude.{◌≡◌, ◌+◌, List, [], ◌∷◌, ◌++◌, ◌&&◌, Bool, true, nat_le, if◌then◌else◌, length, Option, Some, None}
use Rattle.two_silos.specs.Nodes.{GrainId, Packet, Part, Shift}
use Rattle.silo_nodes.specs.Packets.{is_before, is_ascending}
use Rattle.silo_nodes.specs.LogCache.{Node}
use Rattle.silo_nodes.specs.Coordinators.{Coordination, heard, replies, begun, next_of, prepare_each}
use Rattle.silo_nodes.specs.Participants.{learned, answers}

-- these packets may be sent
abbrev pub has_room : List Packet → List Packet → Bool
has_room ps sent = nat_le (length ps + length sent) 4294967296

-- the packets with those that are sent, where they may be
abbrev pub sent_on : List Packet → List Packet → List Packet
sent_on ps sent = if has_room ps sent then ps ++ sent else ps

-- the coordinator has heard the packet and its replies are sent, or nothing is
pub record HasHeard (c : Coordination) (ps : List Packet) (k : Packet) (c' : Coordination) (ps' : List Packet) : Type 0 where
  pub coordinator : c' ≡ (if has_room ps (replies c k) then heard c k else c)
  pub packets : ps' ≡ sent_on ps (replies c k)

-- the participant has learned of the packet and its answers are sent, or nothing is
pub record Handed (n : Node) (ps : List Packet) (k : Packet) (n' : Node) (ps' : List Packet) : Type 0 where
  pub node : n' ≡ (if has_room ps (answers n k) then learned n k else n)
  pub packets : ps' ≡ sent_on ps (answers n k)

-- the transaction has a number, and its requests may be sent
abbrev pub may_begin : Coordination → List Packet → List Part → Bool
may_begin c ps qs = nat_le (c.number + 1) 4294967295 && has_room ps (prepare_each (next_of c) qs)

-- the transaction has begun and its requests are sent, or nothing is
pub record Begun (c : Coordination) (ps : List Packet) (qs : List Part) (c' : Coordination) (ps' : List Packet) : Type 0 where
  pub coordinator : c' ≡ (if may_begin c ps qs then begun c qs else c)
  pub packets : ps' ≡ (if may_begin c ps qs then ps ++ prepare_each (next_of c) qs else ps)

-- the grain comes after the one before it, if there is one
abbrev pub follows : Option GrainId → GrainId → Bool
follows None g = true
follows (Some p) g = is_before p g

-- the shifts ascend, after that grain
abbrev pub ascends_from : Option GrainId → List Shift → Bool
ascends_from p [] = true
ascends_from p (x ∷ xs) = follows p x.grain && is_ascending (x ∷ xs)
