-- What is shown to the settler is what its step needs.
use Rattle.std.proofs.Common.{◌≡◌, Option, None, Some, true≢false, refl, sym, ap, subst}
use Rattle.std.specs.Prelude.{slice_get}
use Rattle.core_model.specs.CoreState.{CoreState, Entry}
use Rattle.core_model.specs.Settler.{Step, Votes, Decides, Seals, Learns, Writes, Loads, Takes, Rests, settler_step, step_of, has_step, work_in, write_work}
use Rattle.core_model.specs.declared.questions.SettlerWork.{SettlerWork}
use Rattle.core_laws.proofs.SettlerSteps.{step-shown}
use Rattle.core_access.specs.Sights.{Sight, run_seen}
use Rattle.settle_loop.specs.ShownWork.{ShowsWork}
use Rattle.settle_loop.specs.SettlerStep.{state_shown}

-- an entry is shown where there is one
of-entry : (w : CoreState) (o : Option Entry) → slice_get w.manager.settled w.manager.emitted ≡ o → step_of (write_work o) ≡ Writes → ShowsWork w Writes (write_work o)
of-entry w None is q = absurd (true≢false (sym (ap has_step q)))
of-entry w (Some entry) is q = (refl, is)

-- what is shown of a step is that step's
shown-is : (w : CoreState) (s : Step) → step_of (work_in w s) ≡ s → ShowsWork w s (work_in w s)
shown-is w (Votes n g) q = (refl, refl)
shown-is w (Decides n) q = refl
shown-is w (Seals n) q = (refl, refl)
shown-is w (Learns u g) q = refl
shown-is w Writes q = of-entry w (slice_get w.manager.settled w.manager.emitted) refl q
shown-is w (Loads g) q = refl
shown-is w Takes q = refl
shown-is w Rests q = refl

-- so is what a look shows
pub work_of : (s : Sight) (work : SettlerWork) → work ≡ work_in (state_shown s) (settler_step (state_shown s)) → ShowsWork (state_shown s) (settler_step (state_shown s)) work
work_of s work is = subst (ShowsWork (state_shown s) (settler_step (state_shown s))) (sym is) (shown-is (state_shown s) (settler_step (state_shown s)) (step-shown (run_seen s)))
