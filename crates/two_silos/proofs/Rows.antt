-- Two lists of events whose ends were worked out by hand.
use Rattle.std.proofs.Common.{◌≡◌, ℕ, List, [], ◌∷◌, length, false, refl, Some}
use Rattle.std.specs.Prelude.{ℤ, pos, negsuc}
use Rattle.two_silos.specs.Nodes.{Done, GrainId, Prepared}
use Rattle.silo_nodes.specs.Logs.{balance}
use Rattle.two_silos.specs.World.{World, WorldEvent, Start, Deliver, Nudge, RestartCoordinator, log_at, opening_at, begin, run}

abbrev account : ℕ → GrainId
account k = record { kind = 0; key = k }

-- account 0 at participant 0 and account 1 at participant 1, with 10 each
abbrev tens : List (List (GrainId × ℤ))
tens = ((account 0, pos 10) ∷ []) ∷ ((account 1, pos 10) ∷ []) ∷ []

-- 3 from account 0 to account 1
abbrev transfer : WorldEvent
transfer = Start ((record { grain = account 0; delta = negsuc 2 } ∷ []) ∷ (record { grain = account 1; delta = pos 3 } ∷ []) ∷ [])

-- a restart between the votes aborts
abbrev cut : World
cut = run (begin tens) (transfer ∷ Deliver 0 ∷ Deliver 1 ∷ Deliver 2 ∷ RestartCoordinator ∷ Deliver 3 ∷ Nudge 0 ∷ Deliver 5 ∷ Deliver 4 ∷ Deliver 6 ∷ Deliver 0 ∷ [])

pub cut-sums : (cut.coordinator.commits ≡ []) × (length cut.packets ≡ 7)
cut-sums = (refl, refl)

pub cut-logs : (log_at cut.nodes 0 ≡ Prepared (record { epoch = 0; number = 1 }) (record { grain = account 0; delta = negsuc 2 } ∷ []) ∷ Done (record { epoch = 0; number = 1 }) false ∷ [])
    × (log_at cut.nodes 1 ≡ Prepared (record { epoch = 0; number = 1 }) (record { grain = account 1; delta = pos 3 } ∷ []) ∷ Done (record { epoch = 0; number = 1 }) false ∷ [])
cut-logs = (refl, refl)

pub cut-balances : (balance (opening_at cut.nodes 0) (log_at cut.nodes 0) (account 0) ≡ Some (pos 10)) × (balance (opening_at cut.nodes 1) (log_at cut.nodes 1) (account 1) ≡ Some (pos 10))
cut-balances = (refl, refl)

-- packets that come twice commit once
abbrev twice : World
twice = run (begin tens) (transfer ∷ Deliver 0 ∷ Deliver 1 ∷ Deliver 2 ∷ Deliver 3 ∷ Deliver 4 ∷ Deliver 4 ∷ Deliver 5 ∷ [])

pub twice-sums : (twice.coordinator.commits ≡ record { epoch = 0; number = 1 } ∷ []) × (length twice.packets ≡ 6)
twice-sums = (refl, refl)

pub twice-balances : (balance (opening_at twice.nodes 0) (log_at twice.nodes 0) (account 0) ≡ Some (pos 7)) × (balance (opening_at twice.nodes 1) (log_at twice.nodes 1) (account 1) ≡ Some (pos 13))
twice-balances = (refl, refl)
