-- What a unit got from the core, in order, and what its script asks for next.
use Rattle.std.specs.Prelude.{ℕ, List, [], ◌∷◌, ◌++◌, if◌then◌else◌, Option, Some, None, option_map, option_and_then}
use Rattle.base_types.specs.declared.calls.Origin.TheVariants.{Child}
use Rattle.base_types.specs.declared.calls.Mode.TheVariants.{Update}
use Rattle.cell_model.specs.Locks.{holds_lock}
use Rattle.core_model.specs.CoreState.{UnitNo, GrainId, same_unit, top, Mode, Value, Call, CoreState}
use Rattle.core_model.specs.Tests.{outcome_of}
use Rattle.core_model.specs.Changes.{new_unit, cleaned}
use Rattle.core_model.specs.declared.events.CoreEvent.{CoreEvent}
use Rattle.core_model.specs.declared.events.CoreEvent.TheVariants.{Begin, Grant}
use Rattle.core_model.specs.Events.{applies, step}
use Rattle.core_model.specs.LegalRuns.{Run, begins}
use Rattle.script_tree.specs.Programs.{ProgramTree}
use Rattle.script_meaning.specs.Play.{Want, WantLock, WantRaise, next}
use Rattle.script_meaning.specs.Trails.{Given, GivenLock, GivenRaise, GivenOutcome, locks_of, answers_of}
use Rattle.base_types.specs.Origins.{depth_of}

-- a lock with the grain's state, an exclusive lock in place of a shared one, or a child of its own
pub data Got : Type 0 where
  GotLock : GrainId → Mode → List Value → Got
  GotRaise : GrainId → Got
  GotChild : Call → ℕ → UnitNo → Got

-- the children among what a unit got
abbrev pub kids_got : List Got → List UnitNo
kids_got [] = []
kids_got (GotLock g mode state ∷ rest) = kids_got rest
kids_got (GotRaise g ∷ rest) = kids_got rest
kids_got (GotChild call depth child ∷ rest) = child ∷ kids_got rest

-- what a grant gives
abbrev pub got_lock : CoreState → UnitNo → GrainId → Mode → Got
got_lock w u g mode = if holds_lock u (w.cells.holds g) then GotRaise g else GotLock g mode (top (cleaned w g)).state

-- what an event that applies gives a unit
abbrev pub got_by : CoreState → UnitNo → CoreEvent → List Got
got_by w u (Begin (Child parent index depth) call plain) =
    if same_unit parent u then GotChild call depth (new_unit w) ∷ [] else []
got_by w u (Grant v g mode) = if same_unit v u then got_lock w u g mode ∷ [] else []
got_by w u _ = []

-- what a unit got from these events, from this state on
abbrev pub got_from : CoreState → List CoreEvent → UnitNo → List Got
got_from w [] u = []
got_from w (e ∷ events) u = (if applies w e then got_by w u e else []) ++ got_from (step w e) events u

-- what each unit got in a run
abbrev pub got_in : Run → UnitNo → List Got
got_in r = got_from (begins r) r.events

-- One more was given, and then the rest.
abbrev pub and_given : Given → Option (List Given) → Option (List Given)
and_given one rest = option_map (λ more. one ∷ more) rest

-- what a unit was given by now: each child's outcome. There is no such list while a child isn't decided.
abbrev pub given_by : CoreState → List Got → Option (List Given)
given_by w [] = Some []
given_by w (GotLock g mode state ∷ rest) = and_given (GivenLock g mode state) (given_by w rest)
given_by w (GotRaise g ∷ rest) = and_given (GivenRaise g) (given_by w rest)
given_by w (GotChild call depth child ∷ rest) =
    option_and_then (λ outcome. and_given (GivenOutcome call depth outcome) (given_by w rest)) (outcome_of w child)

-- what the unit's script asks for next, over what it was given; nothing while it waits for a child
abbrev pub wanted_by : ProgramTree → CoreState → UnitNo → List Got → Option Want
wanted_by types w u got =
    option_map (λ given. next types (w.units.call u) (depth_of (w.units.origin u)) (locks_of given) (answers_of given)) (given_by w got)

-- the lock that is asked for: a first one, or an exclusive one in place of a shared one
abbrev pub wanted_lock : Option Want → Option (GrainId × Mode)
wanted_lock (Some (WantLock g mode)) = Some (g, mode)
wanted_lock (Some (WantRaise g)) = Some (g, Update)
wanted_lock _ = None
