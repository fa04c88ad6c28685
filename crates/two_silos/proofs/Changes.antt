-- The small changes that events are made of.
use Rattle.std.proofs.Common.{ℕ, ◌+◌, List, [], ◌∷◌, ◌++◌}
use Rattle.two_silos.specs.Nodes.{NodeEntry, Part, TxnId}
use Rattle.silo_nodes.specs.Coordinators.{without, agreed}
use Rattle.two_silos.specs.World.{World}
use Rattle.two_silos.proofs.Invariant.{put_log}

-- a number is taken
abbrev pub numbered : World → World
numbered w = record w { coordinator = record w.coordinator { number = w.coordinator.number + 1 } }

-- the transaction waits for its votes
abbrev pub opened : World → TxnId → List Part → World
opened w t qs = record w { coordinator = record w.coordinator { pending = w.coordinator.pending ++ record { txn = t; parts = qs; yes = [] } ∷ [] } }

-- it is no longer pending
abbrev pub closed : World → TxnId → World
closed w t = record w { coordinator = record w.coordinator { pending = without t w.coordinator.pending } }

-- it is a commit
abbrev pub committed : World → TxnId → World
committed w t = record w { coordinator = record w.coordinator { commits = w.coordinator.commits ++ t ∷ [] } }

-- a yes is kept
abbrev pub agreeing : World → TxnId → ℕ → World
agreeing w t n = record w { coordinator = record w.coordinator { pending = agreed t n w.coordinator.pending } }

-- a participant's log is replaced
abbrev pub logged : World → ℕ → List NodeEntry → World
logged w n log = record w { nodes = put_log w.nodes n log }

-- the coordinator begins again
abbrev pub renewed : World → World
renewed w = record w { coordinator = record w.coordinator { epoch = w.coordinator.epoch + 1; number = 0; pending = [] } }
