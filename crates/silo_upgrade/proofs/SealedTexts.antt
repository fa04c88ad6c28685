-- What each image has of a log, by what became of the upgrade's block.
use Rattle.std.proofs.Common.{◌≡◌, inl, inr, ℕ, ◌+◌, ◌<◌, ◌^◌, List, [], ◌∷◌, ◌++◌, length, ◌∙◌, ap, subst}
use Rattle.host_trait.specs.declared.channels.FileId.TheVariants.{Manager}
use Rattle.host_trait.specs.World.{World, Passes}
use Rattle.gate_block.specs.Log.{LogsUpTo, EachLogs, EachLogsOrMore}
use Rattle.commit_log.specs.SealImages.{IsNextBlock}
use Rattle.silo_upgrade.specs.Steps.{upgrade_body, upgrade_block, LogsOrUpgrades}

module _ (slot gate session : ℕ) (text block : List ℕ) (bodies : List (List ℕ)) (old new : World) (is : block ≡ upgrade_block session text) where
  -- the block comes next
  pub next_block : length (upgrade_body session text) < 2 ^ 32 → EachLogs bodies gate (Manager slot) old.disk → IsNextBlock slot bodies (upgrade_body session text) gate block old
  next_block small logs = record { block_is = is; small = small; logs = logs }

  -- the gate behind it
  next_gate : (next : ℕ) → next ≡ gate + length block → next ≡ gate + length (upgrade_block session text)
  next_gate next at = at ∙ ap (λ (b : List ℕ). gate + length b) is

  pub gate_moves : (next : ℕ) → next ≡ gate + length block → EachLogs (bodies ++ upgrade_body session text ∷ []) next (Manager slot) new.disk
      → EachLogs (bodies ++ upgrade_body session text ∷ []) (gate + length (upgrade_block session text)) (Manager slot) new.disk
  gate_moves next at logs c left = subst (λ (n : ℕ). LogsUpTo (bodies ++ upgrade_body session text ∷ []) n c) (next_gate next at) (logs c left)

  module _ (moments : Passes (λ m. EachLogsOrMore bodies (upgrade_body session text) gate (Manager slot) m.disk) old.past new.past) where
    -- it was sealed
    pub sealed_logs : (next : ℕ) → next ≡ gate + length block → EachLogs (bodies ++ upgrade_body session text ∷ []) next (Manager slot) new.disk → LogsOrUpgrades slot gate session text bodies old new
    sealed_logs next at logs = record { moments = moments; now = λ c left. inr (gate_moves next at logs c left) }

    -- it wasn't
    pub unsealed_logs : EachLogs bodies gate (Manager slot) new.disk → LogsOrUpgrades slot gate session text bodies old new
    unsealed_logs logs = record { moments = moments; now = λ c left. inl (logs c left) }

    -- or that is in doubt
    pub doubted_logs : EachLogsOrMore bodies (upgrade_body session text) gate (Manager slot) new.disk → LogsOrUpgrades slot gate session text bodies old new
    doubted_logs logs = record { moments = moments; now = logs }
