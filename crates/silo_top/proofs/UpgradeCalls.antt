-- A call that upgrades a silo, as a call shows it.
use Rattle.std.proofs.Common.{◌≡◌, ℕ, List, sym, subst}
use Rattle.host_trait.specs.declared.channels.Channel.{Channel}
use Rattle.host_trait.specs.World.{World}
use Rattle.promise_spec.specs.Words.{Manner}
use Rattle.promise_spec.specs.Endings.{Ending}
use Rattle.promise_spec.specs.Upgrading.{UpgradesSilo}
use Rattle.silo_upgrade.specs.Endings.{ended_so}
use Rattle.silo_top.specs.declared.status.Status.{Status}
use Rattle.silo_top.specs.Statuses.{status_ending}
use Rattle.silo_top.proofs.ShownCalls.{observed_call}

-- what `upgrade` promises is what the call shows, where its status is how it ended
pub upgraded : (m : Manner) (asked : List (List ℕ)) (old new : World) (before after : Channel → ℕ) (e : Ending) (status : Status) → status_ending status ≡ e
    → UpgradesSilo (ended_so m asked old new before after e) → UpgradesSilo (observed_call m asked old new before after status)
upgraded m asked old new before after e status is obeys = subst (λ (x : Ending). UpgradesSilo (ended_so m asked old new before after x)) (sym is) obeys
