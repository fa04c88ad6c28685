-- A silo that was made, as a call shows it.
use Rattle.std.proofs.Common.{◌≡◌, ℕ, List, Result, sym, subst, false}
use Rattle.host_trait.specs.declared.channels.Channel.{Channel}
use Rattle.host_trait.specs.World.{World}
use Rattle.promise_spec.specs.Words.{Manner}
use Rattle.promise_spec.specs.Endings.{Ending}
use Rattle.promise_spec.specs.Commands.{MakesSilo}
use Rattle.silo_opening.specs.Inits.{ending_of, ended_with}
use Rattle.silo_opening.specs.declared.silo_init.InitFault.{InitFault}
use Rattle.silo_top.specs.declared.status.Status.{Status}
use Rattle.silo_top.specs.Statuses.{status_ending}
use Rattle.silo_top.proofs.ShownCalls.{observed_call}

-- what `init` promises is what the call shows, where its status is the answer's ending
pub made : {A : Type 0} (m : Manner) (asked : List (List ℕ)) (old new : World) (before after : Channel → ℕ) (result : Result A InitFault) (status : Status) → status_ending status ≡ ending_of result
    → ((manner : Manner) (asked : List (List ℕ)) → MakesSilo (ended_with manner asked old new before after result)) → MakesSilo (observed_call m asked old new before after status)
made m asked old new before after result status is makes =
    subst (λ (e : Ending). MakesSilo (record { manner = m; asked = asked; windowed = false; old = old; new = new; faults_before = before; faults_after = after; ending = e })) (sym is) (makes m asked)
