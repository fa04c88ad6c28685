-- A report of a folder, as a call shows it.
use Rattle.std.proofs.Common.{◌≡◌, ℕ, List, Result, sym, subst, false}
use Rattle.host_trait.specs.declared.channels.Channel.{Channel}
use Rattle.host_trait.specs.World.{World}
use Rattle.promise_spec.specs.Words.{Manner}
use Rattle.promise_spec.specs.Endings.{Ending}
use Rattle.promise_spec.specs.Courses.{Observed}
use Rattle.log_audit.specs.Endings.{report_ending, reported_as}
use Rattle.log_audit.specs.declared.faults.ReportFault.{ReportFault}
use Rattle.silo_top.specs.declared.status.Status.{Status}
use Rattle.silo_top.specs.Statuses.{status_ending}
use Rattle.silo_top.proofs.ShownCalls.{observed_call}

-- what a report promises is what the call shows, where its status is the answer's ending
pub reported : {A : Type 0} (Obeys : Observed → Type 0) (m : Manner) (asked : List (List ℕ)) (old new : World) (before after : Channel → ℕ) (result : Result A ReportFault) (status : Status) → status_ending status ≡ report_ending result
    → Obeys (reported_as m asked old new before after result) → Obeys (observed_call m asked old new before after status)
reported Obeys m asked old new before after result status is obeys =
    subst (λ (e : Ending). Obeys (record { manner = m; asked = asked; windowed = false; old = old; new = new; faults_before = before; faults_after = after; ending = e })) (sym is) obeys
