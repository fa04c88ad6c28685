-- A call that compacts a silo, as a call shows it.
use Rattle.std.proofs.Common.{◌≡◌, ℕ, List, Result, sym, subst, false}
use Rattle.host_trait.specs.declared.channels.Channel.{Channel}
use Rattle.host_trait.specs.World.{World}
use Rattle.promise_spec.specs.Words.{Manner}
use Rattle.promise_spec.specs.Endings.{Ending}
use Rattle.promise_spec.specs.Compaction.{Compacts}
use Rattle.checkpoint.specs.Endings.{compact_ending, compacted_as}
use Rattle.silo_opening.specs.declared.faults.OpenFault.{OpenFault}
use Rattle.silo_top.specs.declared.status.Status.{Status}
use Rattle.silo_top.specs.Statuses.{status_ending}
use Rattle.silo_top.proofs.ShownCalls.{observed_call}

-- what `compact` promises is what the call shows, where its status is the answer's ending
pub compacted : {A : Type 0} (m : Manner) (asked : List (List ℕ)) (old new : World) (before after : Channel → ℕ) (result : Result A OpenFault) (status : Status) → status_ending status ≡ compact_ending result
    → Compacts (compacted_as m asked old new before after result) → Compacts (observed_call m asked old new before after status)
compacted m asked old new before after result status is obeys =
    subst (λ (e : Ending). Compacts (record { manner = m; asked = asked; windowed = false; old = old; new = new; faults_before = before; faults_after = after; ending = e })) (sym is) obeys
