-- What the settler is shown, and when its step's event applies.
use Rattle.std.specs.Prelude.{◌≡◌, ◌↔◌, List, [], ◌∷◌, true, false, ◌||◌, not, Some, ⊤}
use Rattle.core_model.specs.CoreState.{UnitNo, GrainId, Member, Version, Outcome, Batch, CoreState}
use Rattle.core_model.specs.Tests.{members, has_bad_source, is_before, is_planned, state_written}
use Rattle.core_model.specs.Chains.{WroteGrain}
use Rattle.core_model.specs.Events.{CoreEvent, applies, is_after_halt}
use Rattle.core_model.specs.Settler.{MakesEvent, settler_step, versions_to_write}
use Rattle.core_model.specs.Answers.{answer_to}
use Rattle.core_model.specs.declared.questions.CoreQuestion.TheVariants as question
use Rattle.core_model.specs.declared.questions.CoreAnswer.TheVariants as answer
use Rattle.core_model.specs.declared.questions.KnownOutcome.TheVariants.{Decided}

-- the event that the settler's step makes applies, but for a stop that it isn't allowed after
abbrev pub StepApplies : CoreState → CoreEvent → Type 0
StepApplies w e = MakesEvent (settler_step w) e → applies w e ≡ (not w.units.halt || is_after_halt e)

-- each grain comes before all after it
abbrev pub AreAscending : List GrainId → Type 0
AreAscending [] = ⊤
AreAscending (g ∷ gs) = ((k : GrainId) → Member k gs → is_before g k ≡ true) × AreAscending gs

-- a unit of the batch wrote the grain, and didn't read from a unit that is aborted, or to abort
abbrev pub IsWork : CoreState → Batch → GrainId → Type 0
IsWork w b g = (u : UnitNo) × Member u (members w b) × (has_bad_source w u ≡ false) × WroteGrain w.manager.writes u g

-- The plan has the grains of the batch's work, in order, each once.
pub record IsPlan (w : CoreState) (b : Batch) : Type 0 where
  pub ascending : AreAscending b.plan
  pub work : (g : GrainId) → (is_planned b g ≡ true) ↔ IsWork w b g

-- The versions that are shown for a grain are what the units of the batch wrote there that are its work.
pub record ShowsVersions (w : CoreState) (b : Batch) (g : GrainId) : Type 0 where
  pub only : (x : Version) → Member x (versions_to_write w (Some b) g) → Member x.unit (members w b) × (has_bad_source w x.unit ≡ false) × (state_written g (w.manager.writes x.unit) ≡ Some x.state)
  pub all : (u : UnitNo) → Member u (members w b) → has_bad_source w u ≡ false → WroteGrain w.manager.writes u g → (x : Version) × Member x (versions_to_write w (Some b) g) × (x.unit ≡ u)

-- the answer on whether a unit is decided is yes exactly where its outcome is shown
abbrev pub TellsDecided : CoreState → UnitNo → Type 0
TellsDecided w u = (answer_to w (question.IsDecided u) ≡ answer.IsDecided true) ↔ ((o : Outcome) × (answer_to w (question.Outcome u) ≡ answer.Outcome (Decided o)))
