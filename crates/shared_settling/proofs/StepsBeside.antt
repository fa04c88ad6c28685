-- What a step of the settler among others leaves beside the books.
use Rattle.std.proofs.Common.{◌≡◌, ℕ, Bool, ◌∙◌, subst}
use Rattle.std.specs.Prelude.{Result, Ok, Err, true}
use Rattle.base_types.specs.declared.shapes.Shape.{Shape}
use Rattle.host_trait.specs.declared.channels.Channel.{Channel}
use Rattle.host_trait.specs.World.{World}
use Rattle.core_model.specs.Laws.{extended}
use Rattle.core_model.specs.LegalRuns.{Run}
use Rattle.core_model.specs.Settler.{settler_step, Rests}
use Rattle.core_model.specs.declared.events.CoreEvent.{CoreEvent}
use Rattle.core_access.specs.Sights.{Sight, run_seen}
use Rattle.settle_loop.specs.SettlerStep.{state_shown, TurnsAs}
use Rattle.settle_loop.specs.declared.settler.Settler.{Settler}
use Rattle.settle_loop.specs.declared.settler.Turned.{Turned}
use Rattle.settle_loop.specs.declared.settler.Turned.TheVariants.{Nothing, Stop}
use Rattle.settle_loop.specs.declared.settler.StopCause.TheVariants.{InDoubt}
use Rattle.run_books.specs.declared.faults.RunFault.{RunFault}
use Rattle.run_books.specs.RecordFrame.{TurnsBeside}
use Rattle.run_books.specs.SharedSteps.{SeesOn}
use Rattle.run_books.proofs.Fronts.{events_told, after-is}
use Rattle.run_books.proofs.Reliance.{run-sees}
use Rattle.run_books.proofs.SettlerFrame.{IsAnswerTo, step-beside, failed-on}
use Rattle.shared_settling.proofs.PassSights.{step-among}
use Rattle.run_books.specs.Stages.{stage_by, stage_of}

-- the run goes on by the events of what was seen
pub run-goes : (s t : Sight) (on : SeesOn s t) → run_seen t ≡ extended (run_seen s) (events_told on.rest)
run-goes s t on = run-sees s t on ∙ after-is on.rest (run_seen s)

-- by a step
pub step-leaves : {H E T : Type 0} (tells : Bool) (world : H → World) (faults : H → Channel → ℕ) (may : CoreEvent → Bool) (shape : Shape) (before after : Settler) (s t : Sight) (old new : H)
    (result : Result Turned E) → TurnsAs tells world faults may shape before after s t old new result → (x : Result Turned E) → result ≡ x → (answer : Result T RunFault) → IsAnswerTo answer x
    → TurnsBeside {T = T} tells (stage_of world faults (run_seen s) before old) (stage_of world faults (run_seen t) after new) answer
step-leaves tells world faults may shape before after s t old new result turns x same answer is =
    let on = (step-among tells world faults may shape before after s t old new result turns).on in
    step-beside tells world faults may shape settler_step s t (run_seen s) (run_seen t) (events_told on.rest) (run-goes s t on) before after old new answer x is
    (subst (λ (y : Result Turned _). TurnsAs tells world faults may shape before after s t old new y) same turns)

-- one that found nothing to do left nothing to do
pub step-rests : {H E : Type 0} (tells : Bool) (world : H → World) (faults : H → Channel → ℕ) (may : CoreEvent → Bool) (shape : Shape) (before after : Settler) (s t : Sight) (old new : H)
    (result : Result Turned E) → TurnsAs tells world faults may shape before after s t old new result → result ≡ Ok Nothing → settler_step (state_shown t) ≡ Rests
step-rests tells world faults may shape before after s t old new result turns same =
    (subst (λ (y : Result Turned _). TurnsAs tells world faults may shape before after s t old new y) same turns).rests

-- behind one that ended in doubt the settler knows of one
pub step-doubts : {H E : Type 0} (tells : Bool) (world : H → World) (faults : H → Channel → ℕ) (may : CoreEvent → Bool) (shape : Shape) (before after : Settler) (s t : Sight) (old new : H)
    (result : Result Turned E) → TurnsAs tells world faults may shape before after s t old new result → result ≡ Ok (Stop InDoubt) → after.doubted ≡ true
step-doubts tells world faults may shape before after s t old new result turns same =
    (subst (λ (y : Result Turned _). TurnsAs tells world faults may shape before after s t old new y) same turns).doubts

-- where more was seen behind a fault
pub fault-leaves : {T : Type 0} (tells : Bool) (r : Run) (s t : Sight) (settler settler' : Settler) (faults faults' : Channel → ℕ) (now now' : World) (f : RunFault) → SeesOn s t
    → TurnsBeside {T = T} tells (stage_by r settler faults now) (stage_by (run_seen s) settler' faults' now') (Err f) → TurnsBeside {T = T} tells (stage_by r settler faults now) (stage_by (run_seen t) settler' faults' now') (Err f)
fault-leaves tells r s t settler settler' faults faults' now now' f on one =
    failed-on tells r (run_seen s) (run_seen t) settler settler' faults faults' now now' f (events_told on.rest) (run-goes s t on) one
