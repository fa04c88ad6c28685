-- What all balances come to together.
use Rattle.std.specs.Prelude.{◌≡◌, ℕ, ◌+◌, List, [], ◌∷◌, Bool, true, ◌&&◌, not, is_some, ℤ, pos, ◌+ℤ◌, ⊤}
use Rattle.two_silos.specs.Nodes.{GrainId, Part, Shift, TxnId}
use Rattle.silo_nodes.specs.Packets.{all}
use Rattle.silo_nodes.specs.LogCache.{opening_in}
use Rattle.two_silos.specs.World.{World, WorldEvent, Start, Deliver, NudgeCoordinator, Nudge, RestartCoordinator, Restart, balance_in}
use Rattle.two_silos.specs.Promise.{IsQuietWorld}
use Rattle.two_silos.specs.Summaries.{or_zero}

-- the balances of these grains at a participant, together
abbrev pub held_at : World → ℕ → List (GrainId × ℤ) → ℤ
held_at w n [] = pos 0
held_at w n (o ∷ os) = or_zero (balance_in w.nodes n o.0) +ℤ held_at w n os

-- the balances of the grains of these participants, which are numbered from n on
abbrev pub held_from : World → ℕ → List (List (GrainId × ℤ)) → ℤ
held_from w n [] = pos 0
held_from w n (o ∷ os) = held_at w n o +ℤ held_from w (n + 1) os

-- the opening balances of one participant, together
abbrev pub opened : List (GrainId × ℤ) → ℤ
opened [] = pos 0
opened (o ∷ os) = o.1 +ℤ opened os

-- those of all participants
abbrev pub all_opened : List (List (GrainId × ℤ)) → ℤ
all_opened [] = pos 0
all_opened (o ∷ os) = opened o +ℤ all_opened os

-- no grain has two opening balances there
abbrev pub is_once : List (GrainId × ℤ) → Bool
is_once [] = true
is_once (o ∷ os) = not (is_some (opening_in os o.0)) && is_once os

-- at no participant
abbrev pub AreOnce : List (List (GrainId × ℤ)) → Type 0
AreOnce openings = all is_once openings ≡ true

-- by how much shifts move all grains together
abbrev pub amount : List Shift → ℤ
amount [] = pos 0
amount (x ∷ xs) = x.delta +ℤ amount xs

-- by how much the lists of a start do
abbrev pub lists_amount : List (List Shift) → ℤ
lists_amount [] = pos 0
lists_amount (s ∷ ss) = amount s +ℤ lists_amount ss

-- by how much the parts of a transaction do
abbrev pub parts_amount : List Part → ℤ
parts_amount [] = pos 0
parts_amount (q ∷ qs) = amount q.shifts +ℤ parts_amount qs

-- by how much these transactions do, as they were started
abbrev pub txns_amount : (TxnId → List Part) → List TxnId → ℤ
txns_amount parts [] = pos 0
txns_amount parts (t ∷ ts) = parts_amount (parts t) +ℤ txns_amount parts ts

-- a start takes as much from grains as it gives to others
abbrev pub IsPayment : WorldEvent → Type 0
IsPayment (Start lists) = lists_amount lists ≡ pos 0
IsPayment (Deliver k) = ⊤
IsPayment NudgeCoordinator = ⊤
IsPayment (Nudge n) = ⊤
IsPayment RestartCoordinator = ⊤
IsPayment (Restart n) = ⊤

-- each start does
abbrev pub ArePayments : List WorldEvent → Type 0
ArePayments [] = ⊤
ArePayments (e ∷ es) = IsPayment e × ArePayments es

-- no participant waits for a decision
abbrev pub NobodyWaits : World → Type 0
NobodyWaits w = (n : ℕ) → IsQuietWorld w n
