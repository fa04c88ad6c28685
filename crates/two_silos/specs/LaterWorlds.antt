-- What stays whatever comes, which numbers are given, and what keeps a grain busy.
use Rattle.std.specs.Prelude.{◌≡◌, ℕ, List, [], ◌∷◌, ◌++◌, true, false, ◌&&◌, if◌then◌else◌}
use Rattle.base_types.specs.Lists.{IsPrefix}
use Rattle.two_silos.specs.Nodes.{GrainId, Part, Prepared, Shift, TxnId}
use Rattle.silo_nodes.specs.Packets.{Member, touches}
use Rattle.silo_nodes.specs.Logs.{is_done}
use Rattle.two_silos.specs.World.{World, WorldEvent, Start, Deliver, NudgeCoordinator, Nudge, RestartCoordinator, Restart, log_at, can_start, next_txn, is_within, does, step}

-- the commits and each log are at the front of the later ones
pub record IsLater (w v : World) : Type 0 where
  pub commits : IsPrefix w.coordinator.commits v.coordinator.commits
  pub logs : (n : ℕ) → IsPrefix (log_at w.nodes n) (log_at v.nodes n)

-- the number that an event gives to a transaction, where it starts one
abbrev pub given_by : World → WorldEvent → List TxnId
given_by w (Start lists) = if can_start w lists && is_within (does w (Start lists)) then next_txn w ∷ [] else []
given_by w (Deliver k) = []
given_by w NudgeCoordinator = []
given_by w (Nudge n) = []
given_by w RestartCoordinator = []
given_by w (Restart n) = []

-- the numbers that these events give, in their order
abbrev pub given_in : World → List WorldEvent → List TxnId
given_in w [] = []
given_in w (e ∷ es) = given_by w e ++ given_in (step w e) es

-- A grain of a participant is kept by a transaction that was prepared there, with the shifts of its start, and isn't done.
pub record KeepsPart (parts : TxnId → List Part) (w : World) (n : ℕ) (g : GrainId) : Type 0 where
  pub txn : TxnId
  pub shifts : List Shift
  pub prepared : Member (Prepared txn shifts) (log_at w.nodes n)
  pub waits : is_done (log_at w.nodes n) txn ≡ false
  pub moves : touches g shifts ≡ true
  pub part : Member (record { node = n; shifts = shifts }) (parts txn)
