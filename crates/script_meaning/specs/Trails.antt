-- What a unit was given, in order.
use Rattle.std.specs.Prelude.{◌≡◌, ℕ, zero, suc, List, [], ◌∷◌, ◌++◌, if◌then◌else◌}
use Rattle.std.specs.List.{All, Contains}
use Rattle.base_types.specs.declared.calls.Call.{Call}
use Rattle.base_types.specs.declared.calls.GrainId.{GrainId}
use Rattle.base_types.specs.declared.calls.Mode.{Mode}
use Rattle.base_types.specs.declared.calls.Mode.TheVariants.{Read, Update}
use Rattle.base_types.specs.declared.calls.Outcome.{Outcome}
use Rattle.base_types.specs.declared.calls.Outcome.TheVariants.{Aborted}
use Rattle.base_types.specs.declared.calls.Value.{Value}
use Rattle.script_tree.specs.Programs.{ProgramTree}
use Rattle.script_holding.specs.Holding.{same_grain}
use Rattle.script_meaning.specs.Play.{GrainState, AskedUnit, Lock, Want, WantLock, WantRaise, WantUnit, Over, Played, next}

-- a lock with the grain's state, an exclusive lock in place of a shared one, or the outcome of a child
pub data Given : Type 0 where
  GivenLock : GrainId → Mode → List Value → Given
  GivenRaise : GrainId → Given
  GivenOutcome : Call → ℕ → Outcome → Given

-- what it answers
abbrev pub wanted : Given → Want
wanted (GivenLock grain mode state) = WantLock grain mode
wanted (GivenRaise grain) = WantRaise grain
wanted (GivenOutcome call depth outcome) = WantUnit call depth

-- the locks, the children and their outcomes, and the states of grains that were locked for the first time
abbrev pub locks_of : List Given → List Lock
locks_of [] = []
locks_of (GivenLock grain mode state ∷ rest) = (record { grain = grain; mode = mode; state = state }) ∷ locks_of rest
locks_of (GivenRaise grain ∷ rest) = (record { grain = grain; mode = Update; state = [] }) ∷ locks_of rest
locks_of (GivenOutcome call depth outcome ∷ rest) = locks_of rest

-- the outcomes of children in a trail, in order
abbrev pub answers_of : List Given → List Outcome
answers_of [] = []
answers_of (GivenLock grain mode state ∷ rest) = answers_of rest
answers_of (GivenRaise grain ∷ rest) = answers_of rest
answers_of (GivenOutcome call depth outcome ∷ rest) = outcome ∷ answers_of rest

-- the units that a trail asked for, in order
abbrev pub asked_of : List Given → List AskedUnit
asked_of [] = []
asked_of (GivenLock grain mode state ∷ rest) = asked_of rest
asked_of (GivenRaise grain ∷ rest) = asked_of rest
asked_of (GivenOutcome call depth outcome ∷ rest) = (call, depth) ∷ asked_of rest

-- the grains of a trail's first locks, with the states that came with them
abbrev pub reads_of : List Given → List GrainState
reads_of [] = []
reads_of (GivenLock grain mode state ∷ rest) = (grain, state) ∷ reads_of rest
reads_of (GivenRaise grain ∷ rest) = reads_of rest
reads_of (GivenOutcome call depth outcome ∷ rest) = reads_of rest

-- the grains that were locked exclusive
abbrev pub exclusive : Mode → GrainId → List GrainId → List GrainId
exclusive Read grain rest = rest
exclusive Update grain rest = grain ∷ rest

-- the grains that a trail locked exclusive, or made so
abbrev pub exclusive_in : List Given → List GrainId
exclusive_in [] = []
exclusive_in (GivenLock grain mode state ∷ rest) = exclusive mode grain (exclusive_in rest)
exclusive_in (GivenRaise grain ∷ rest) = grain ∷ exclusive_in rest
exclusive_in (GivenOutcome call depth outcome ∷ rest) = exclusive_in rest

-- these are the states of these grains
abbrev pub Has : (GrainId → List Value) → List GrainState → Type 0
Has states found = All (λ one. states one.0 ≡ one.1) found

-- a unit was given just what `next` named, one after the other
pub record IsTrail (types : ProgramTree) (call : Call) (depth : ℕ) (trail : List Given) : Type 0 where
  pub each : (before : List Given) (one : Given) (after : List Given) → trail ≡ before ++ (one ∷ after) →
      next types call depth (locks_of before) (answers_of before) ≡ wanted one

-- and then it was over with this result
pub record IsWholeTrail (types : ProgramTree) (call : Call) (depth : ℕ) (trail : List Given) (result : Outcome) : Type 0 where
  pub named : IsTrail types call depth trail
  pub over : next types call depth (locks_of trail) (answers_of trail) ≡ Over result

-- what a play gives is what this trail shows, and the grains that it writes are locked exclusive there
pub record IsShown (trail : List Given) (outcome : Outcome) (played : Played) : Type 0 where
  pub result : played.result ≡ outcome
  pub asked : played.asked ≡ asked_of trail
  pub reads : played.reads ≡ reads_of trail
  pub locked : All (λ one. Contains (exclusive_in trail) one.0) played.writes

-- so many outcomes, of which those past the end are aborts
abbrev pub outcomes : ℕ → List Outcome → List Outcome
outcomes zero answers = []
outcomes (suc n) [] = Aborted ∷ outcomes n []
outcomes (suc n) (answer ∷ answers) = answer ∷ outcomes n answers

-- the states that were found, no values for every other grain
abbrev pub states_of : List GrainState → GrainId → List Value
states_of [] grain = []
states_of (first ∷ rest) grain = if same_grain first.0 grain then first.1 else states_of rest grain
