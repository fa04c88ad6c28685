-- What `HasStepped` says of a call as a whole: behind a look, where it answers, and where there was no memory.
use Rattle.std.proofs.Common.{◌≡◌, ◌∙◌, ℕ, Bool, ap}
use Rattle.std.specs.Prelude.{Result, Ok, IsErrAnd, is_err}
use Rattle.std.proofs.lemmas.Result.{IfOk-from_err, err_from_is_err_and}
use Rattle.core_model.specs.declared.events.CoreEvent.{CoreEvent}
use Rattle.core_access.specs.FitAccess.{StaysFit}
use Rattle.core_access.specs.Sights.{Sight, Looks}
use Rattle.script_tree.specs.Programs.{ProgramTree}
use Rattle.txn_agent.specs.declared.agent.Advanced.{Advanced}
use Rattle.txn_agent.specs.declared.work.Carried.{Carried}
use Rattle.txn_agent.specs.declared.work.Doing.{Doing}
use Rattle.txn_agent.specs.CoreLink.{KnowsDoing}
use Rattle.txn_agent.specs.AgentStep.{Acts, AnswerSays, HasStepped}
use Rattle.txn_agent.proofs.ComposedSteps.{acts_on, happened-acts, told_by}

-- a look and then a step, with as many children
pub stepped_on : {Access Aside E : Type 0} {is_fit : Access → Type 0} {aside : Access → Aside} {may : CoreEvent → Bool} {sight : Access → Sight} {types : ProgramTree} {c : Carried}
    (kids count : ℕ) (old seen new : Access) (r : Result (Doing × Advanced) E) → kids ≡ count → StaysFit (is_fit seen) (aside old) (aside seen) → Looks may (sight old) (sight seen) →
    HasStepped is_fit aside may sight types c kids seen new r → HasStepped is_fit aside may sight types c count old new r
stepped_on {Access} {Aside} {E} {is_fit} {aside} {may} {sight} {types} {c} kids count old seen new r same fit l h = record {
  kept = record { fit = h.kept.fit; aside = h.kept.aside ∙ fit.aside };
  acts = acts_on may types c.unit (sight old) (sight seen) (sight new) l h.acts;
  told = told_by may types c.unit (sight old) (sight seen) (sight new) l kids count same r h.told;
  doing = h.doing;
}

-- where it answers, what the answer says is all that was put
pub stepped_ok : {Access Aside E : Type 0} {is_fit : Access → Type 0} {aside : Access → Aside} {may : CoreEvent → Bool} {sight : Access → Sight} {types : ProgramTree} {c : Carried}
    {kids : ℕ} {old new : Access} {doing : Doing} {advanced : Advanced} → StaysFit (is_fit new) (aside old) (aside new) → AnswerSays may types c.unit kids (sight old) (sight new) advanced →
    KnowsDoing types (sight new) c doing → HasStepped {E = E} is_fit aside may sight types c kids old new (Ok (doing, advanced))
stepped_ok {Access} {Aside} {E} {is_fit} {aside} {may} {sight} {types} {c} {kids} {old} {new} {doing} {advanced} fit told known = record {
  kept = fit;
  acts = happened-acts may types c.unit kids (sight old) (sight new) advanced told;
  told = told;
  doing = known;
}

-- where there was no memory, nothing is told
pub stepped_failed : {Access Aside E : Type 0} {is_fit : Access → Type 0} {aside : Access → Aside} {may : CoreEvent → Bool} {sight : Access → Sight} {types : ProgramTree} {c : Carried}
    {kids : ℕ} {old new : Access} (Q : E → Type 0) (r : Result (Doing × Advanced) E) → IsErrAnd r Q → StaysFit (is_fit new) (aside old) (aside new) → Acts may types c.unit (sight old) (sight new) →
    HasStepped is_fit aside may sight types c kids old new r
stepped_failed {Access} {Aside} {E} {is_fit} {aside} {may} {sight} {types} {c} {kids} {old} {new} Q r e fit acts = record {
  kept = fit;
  acts = acts;
  told = IfOk-from_err r (λ made. AnswerSays may types c.unit kids (sight old) (sight new) made.1) (ap is_err (err_from_is_err_and r e).1);
  doing = IfOk-from_err r (λ made. KnowsDoing types (sight new) c made.0) (ap is_err (err_from_is_err_and r e).1);
}
