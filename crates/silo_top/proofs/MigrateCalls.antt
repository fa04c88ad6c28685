-- A call that brings a silo into the new format, as a call shows it.
use Rattle.std.proofs.Common.{◌≡◌, ℕ, List, Result, sym, subst, false}
use Rattle.host_trait.specs.declared.channels.Channel.{Channel}
use Rattle.host_trait.specs.World.{World}
use Rattle.promise_spec.specs.Words.{Manner}
use Rattle.promise_spec.specs.Endings.{Ending}
use Rattle.promise_spec.specs.Migration.{Migrates}
use Rattle.checkpoint.specs.Endings.{migrate_ending, migrated_as}
use Rattle.checkpoint.specs.declared.faults.MigrateFault.{MigrateFault}
use Rattle.silo_top.specs.declared.status.Status.{Status}
use Rattle.silo_top.specs.Statuses.{status_ending}
use Rattle.silo_top.proofs.ShownCalls.{observed_call}

-- what `migrate` promises is what the call shows, where its status is the answer's ending
pub migrated : {A : Type 0} (m : Manner) (asked : List (List ℕ)) (old new : World) (before after : Channel → ℕ) (result : Result A MigrateFault) (status : Status) → status_ending status ≡ migrate_ending result
    → Migrates (migrated_as m asked old new before after result) → Migrates (observed_call m asked old new before after status)
migrated m asked old new before after result status is obeys =
    subst (λ (e : Ending). Migrates (record { manner = m; asked = asked; windowed = false; old = old; new = new; faults_before = before; faults_after = after; ending = e })) (sym is) obeys
