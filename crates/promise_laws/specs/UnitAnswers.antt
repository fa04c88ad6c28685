-- What a unit got, told by the core's state: its reads, its children, and what it asked for before each.
use Rattle.std.specs.Prelude.{◌≡◌, ℕ, List, [], ◌∷◌, ◌++◌, map, Option, Some}
use Rattle.base_types.specs.declared.calls.Call.{Call}
use Rattle.base_types.specs.declared.calls.Outcome.{Outcome}
use Rattle.core_model.specs.CoreState.{UnitNo, CoreState}
use Rattle.core_model.specs.declared.phases.Phase.TheVariants.{Unborn}
use Rattle.core_model.specs.declared.effects.Read.{Read}
use Rattle.core_model.specs.Tests.{outcome_of}
use Rattle.script_tree.specs.Programs.{ProgramTree}
use Rattle.script_meaning.specs.Play.{GrainState, Want, WantLock, WantRaise, WantUnit, next}
use Rattle.script_meaning.specs.Trails.{Given, GivenLock, GivenRaise, GivenOutcome, locks_of, answers_of}
use Rattle.base_types.specs.Origins.{depth_of}
use Rattle.promise_spec.specs.UnitAnswers.{Got, GotLock, GotRaise, GotChild, kids_got}

-- what one of them was given for: a child's outcome is known
abbrev pub IsGiven : (UnitNo → Option Outcome) → Got → Given → Type 0
IsGiven outcome (GotLock g mode state) one = one ≡ GivenLock g mode state
IsGiven outcome (GotRaise g) one = one ≡ GivenRaise g
IsGiven outcome (GotChild call depth child) one = (o : Outcome) × (outcome child ≡ Some o) × (one ≡ GivenOutcome call depth o)

-- all of them, in order
abbrev pub AreGiven : (UnitNo → Option Outcome) → List Got → List Given → Type 0
AreGiven outcome [] [] = Unit {0}
AreGiven outcome [] (one ∷ trail) = ⊥
AreGiven outcome (x ∷ got) [] = ⊥
AreGiven outcome (x ∷ got) (one ∷ trail) = IsGiven outcome x one × AreGiven outcome got trail

-- what was asked for, of which this came
abbrev pub want_of : Got → Want
want_of (GotLock g mode state) = WantLock g mode
want_of (GotRaise g) = WantRaise g
want_of (GotChild call depth child) = WantUnit call depth

-- the grains and states of the first locks
abbrev pub reads_got : List Got → List GrainState
reads_got [] = []
reads_got (GotLock g mode state ∷ rest) = (g, state) ∷ reads_got rest
reads_got (GotRaise g ∷ rest) = reads_got rest
reads_got (GotChild call depth child ∷ rest) = reads_got rest

-- a read's grain and state
abbrev pub found : Read → GrainState
found r = (r.grain, r.state)

-- after what came before, the script asked for this one
pub record IsNamed (outcome : UnitNo → Option Outcome) (types : ProgramTree) (call : Call) (depth : ℕ) (before : List Got) (x : Got) : Type 0 where
  pub trail : List Given
  pub given : AreGiven outcome before trail
  pub named : next types call depth (locks_of trail) (answers_of trail) ≡ want_of x

-- each of them was asked for, after those before it
abbrev pub AreNamed : (UnitNo → Option Outcome) → ProgramTree → Call → ℕ → List Got → List Got → Type 0
AreNamed outcome types call depth before [] = Unit {0}
AreNamed outcome types call depth before (x ∷ got) = IsNamed outcome types call depth before x × AreNamed outcome types call depth (before ++ (x ∷ [])) got

-- What each unit got: its reads, its children, and each thing asked for before.
pub record Traced (types : ProgramTree) (w : CoreState) (got : UnitNo → List Got) : Type 0 where
  pub fresh : (u : UnitNo) → w.units.phase u ≡ Unborn → got u ≡ []
  pub reads : (u : UnitNo) → reads_got (got u) ≡ map found (w.units.reads u)
  pub kids : (u : UnitNo) → kids_got (got u) ≡ w.units.kids u
  pub named : (u : UnitNo) → AreNamed (outcome_of w) types (w.units.call u) (depth_of (w.units.origin u)) [] (got u)
