-- What a participant does.
use Rattle.std.specs.Prelude.{ℕ, List, [], ◌∷◌, ◌++◌, Bool, true, false, ◌&&◌, ◌||◌, not, if◌then◌else◌, nat_le, Option, Some, None, ℤ, pos, negsuc, ◌+ℤ◌}
use Rattle.silo_nodes.specs.Packets.{any, all, GrainId, TxnId, Shift, Packet, Vote, NodeEntry, Prepared, Done, touches}
use Rattle.silo_nodes.specs.Logs.{is_prepared, is_done, balance}

-- the entry is of a transaction that isn't done and moves the grain
abbrev pub keeps_busy : List NodeEntry → GrainId → NodeEntry → Bool
keeps_busy log g (Prepared t s) = not (is_done log t) && touches g s
keeps_busy log g (Done t commit) = false

-- a prepared transaction that isn't done moves the grain
abbrev pub is_busy : List NodeEntry → GrainId → Bool
is_busy log g = any (keeps_busy log g) log

-- a balance that a grain may have
abbrev pub is_balance : ℤ → Bool
is_balance (pos n) = nat_le n 9223372036854775807
is_balance (negsuc n) = false

-- the grain is there, and the balance after the shift may be
abbrev pub has_room : Option ℤ → ℤ → Bool
has_room None d = false
has_room (Some b) d = is_balance (b +ℤ d)

-- nothing is against the shift
abbrev pub can_shift : (GrainId → Option ℤ) → List NodeEntry → Shift → Bool
can_shift opening log x = not (is_busy log x.grain) && has_room (balance opening log x.grain) x.delta

-- nothing is against any of the shifts
abbrev pub can_prepare : (GrainId → Option ℤ) → List NodeEntry → List Shift → Bool
can_prepare opening log s = all (can_shift opening log) s

-- the log after a request to prepare
abbrev pub log_prepare : (GrainId → Option ℤ) → List NodeEntry → TxnId → List Shift → List NodeEntry
log_prepare opening log t s =
    if is_done log t || is_prepared log t then log
    else if can_prepare opening log s then log ++ Prepared t s ∷ [] else log

-- what is sent then
abbrev pub vote_on : (GrainId → Option ℤ) → List NodeEntry → ℕ → TxnId → List Shift → List Packet
vote_on opening log n t s =
    if is_done log t then []
    else if is_prepared log t then Vote t n true ∷ []
    else Vote t n (can_prepare opening log s) ∷ []

-- the log after a decision
abbrev pub log_decision : List NodeEntry → TxnId → Bool → List NodeEntry
log_decision log t commit = if is_prepared log t && not (is_done log t) then log ++ Done t commit ∷ [] else log
