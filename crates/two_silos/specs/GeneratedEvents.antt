-- The events that a check generates, and the world that they lead to.
use Rattle.std.specs.Prelude.{ℕ, zero, suc, ◌+◌, ◌-◌, ◌*◌, ◌/◌, ◌%◌, min, List, [], ◌∷◌, filter, ◌==◌, nat_lt, nat_le, if◌then◌else◌, length, Option, Some, None, ℤ, pos, neg_ℤ}
use Rattle.two_silos.specs.Nodes.{GrainId, Shift}
use Rattle.two_silos.specs.World.{World, WorldEvent, Start, Deliver, NudgeCoordinator, Nudge, RestartCoordinator, Restart, begin, step}
pub use Rattle.two_silos.specs.declared.course.Course.{Course}

-- so many times the same
abbrev pub times : {A : Type 0} → ℕ → (A → A) → A → A
times zero f x = x
times (suc n) f x = times n f (f x)

-- the generator's number after one more draw
abbrev pub next_number : ℕ → ℕ
next_number x = (x * 6364136223846793005 + 1442695040888963407) % 18446744073709551616

-- what is drawn with it
abbrev pub drawn : ℕ → ℕ
drawn x = x / 2147483648 / 4

-- a course of events after one more draw
abbrev pub draw : Course → Course
draw c = record c { number = next_number c.number }

-- and after an event
abbrev pub happen : Course → WorldEvent → Course
happen c e = record c { world = step c.world e }

-- account k, of the type 0
abbrev pub account : ℕ → GrainId
account k = record { kind = 0; key = k }

-- the accounts of 1000 from k on, every second one, at most n of them
abbrev pub accounts : ℕ → ℕ → List (GrainId × ℤ)
accounts k zero = []
accounts k (suc n) = (account k, pos 1000) ∷ accounts (k + 2) n

-- the accounts 0 to 63, account k at participant k mod 2
abbrev pub bank : List (List (GrainId × ℤ))
bank = accounts 0 32 ∷ accounts 1 32 ∷ []

-- the account that is paid: another than the one that pays
abbrev pub other_than : ℕ → ℕ → ℕ
other_than a b = if b == a then (a + 1) % 64 else b

-- the shifts of a payment of n from account a to account b, by account
abbrev pub payment : ℕ → ℕ → ℤ → List Shift
payment a b n =
    if nat_lt a b then record { grain = account a; delta = neg_ℤ n } ∷ record { grain = account b; delta = n } ∷ []
    else record { grain = account b; delta = n } ∷ record { grain = account a; delta = neg_ℤ n } ∷ []

-- those of one participant
abbrev pub shifts_at : ℕ → List Shift → List Shift
shifts_at n s = filter (λ x. (x.grain.key % 2) == n) s

-- the start of a payment
abbrev pub pay : ℕ → ℕ → ℤ → WorldEvent
pay a b n = Start (shifts_at 0 (payment a b n) ∷ shifts_at 1 (payment a b n) ∷ [])

-- a payment starts between the accounts that two draws pick, of the amount that a third does
abbrev pub start : Course → Course
start c =
    happen (draw (draw (draw c)))
    (pay (drawn (draw c).number % 64) (other_than (drawn (draw c).number % 64) (drawn (draw (draw c)).number % 64)) (pos (drawn (draw (draw (draw c))).number % 100 + 1)))

-- the event that a draw picks, none for a delivery
abbrev pub picked : ℕ → Option WorldEvent
picked d =
    if d == 0 then Some RestartCoordinator
    else if d == 1 then Some (Restart 0)
    else if d == 2 then Some (Restart 1)
    else if nat_le d 6 then Some NudgeCoordinator
    else if nat_le d 10 then Some (Nudge 0)
    else if nat_le d 14 then Some (Nudge 1)
    else None

-- of the last 64 packets, one that the last draw picks is delivered
abbrev pub deliver_recent : Course → Course
deliver_recent c = happen c (Deliver (length c.world.packets - 1 - drawn c.number % min (length c.world.packets) 64))

-- the picked event happens; a delivery takes one more draw, where a packet was sent
abbrev pub happen_or_deliver : Course → Option WorldEvent → Course
happen_or_deliver c (Some e) = happen c e
happen_or_deliver c None = if length c.world.packets == 0 then c else deliver_recent (draw c)

-- one more event, by a draw
abbrev pub pick : Course → Course
pick c = happen_or_deliver (draw c) (picked (drawn (draw c).number % 64))

-- a start, and eight events after it
abbrev pub round : Course → Course
round c = times 8 pick (start c)

-- the packet of the number is delivered, then comes the next
abbrev pub deliver_next : ℕ × World → ℕ × World
deliver_next (at, w) = (at + 1, step w (Deliver at))

-- the packets from a number on that were sent by now are delivered, each once, in order; then come those that this sent
abbrev pub pass : ℕ × World → ℕ × World
pass (from, w) = (length w.packets, (times (length w.packets - from) deliver_next (from, w)).1)

-- all are nudged
abbrev pub nudge_all : World → World
nudge_all w = step (step (step w NudgeCoordinator) (Nudge 0)) (Nudge 1)

-- what that sends is delivered, and in three more passes what the pass before has sent
abbrev pub finish : World → World
finish w = (times 4 pass (length w.packets, nudge_all w)).1

-- the world that a check leads to, of so many starts and a seed
abbrev pub checked : ℕ → ℕ → World
checked starts seed = finish (times starts round (record { number = seed; world = begin bank })).world
