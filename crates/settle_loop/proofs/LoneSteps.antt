-- A step of one who has the core alone.
use Rattle.std.proofs.Common.{◌≡◌, Bool, true, false, refl, ap, ◌∙◌}
use Rattle.std.specs.Prelude.{not, ◌||◌}
use Rattle.core_model.specs.Events.{applies, is_after_halt}
use Rattle.core_model.specs.LegalRuns.{ends}
use Rattle.core_model.specs.Settler.{settler_step, MakesEvent}
use Rattle.core_model.specs.declared.events.CoreEvent.{CoreEvent}
use Rattle.core_model.specs.declared.events.CoreReply.{CoreReply}
use Rattle.core_laws.proofs.Replies.{reply-tells}
use Rattle.core_laws.proofs.SettlerSteps.{step-applies}
use Rattle.core_access.specs.OneHolder.{none_comes}
use Rattle.core_access.specs.Sights.{Sight, run_seen, Tells}
use Rattle.core_access.proofs.Sights.{reply-alone}
use Rattle.settle_loop.specs.ShownWork.{has_applied}
use Rattle.settle_loop.specs.SettlerStep.{state_shown}

not_not : (b : Bool) → not (not b) ≡ b
not_not true = refl
not_not false = refl

-- its reply says whether the event applies, which it does unless a stop stands
pub alone-applies : (s t : Sight) (e : CoreEvent) (r : CoreReply) → Tells none_comes s e r t → MakesEvent (settler_step (state_shown s)) e → has_applied r ≡ (not (state_shown s).units.halt || is_after_halt e)
alone-applies s t e r told makes =
    ap has_applied (reply-alone s t e r told)
    ∙ (ap not (reply-tells (ends (run_seen s)) e)
    ∙ (not_not (applies (ends (run_seen s)) e)
    ∙ step-applies (run_seen s) e makes))
