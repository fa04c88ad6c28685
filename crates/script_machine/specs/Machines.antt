-- What a machine still has before it, what it is given, and what it leaves.
use Rattle.std.specs.Prelude.{◌≡◌, ◌≤◌, ◌⊎◌, ◌++◌, ℕ, zero, suc, Bool, true, false, not, List, [], ◌∷◌, length, slice_get, vec_capacity}
use Rattle.base_types.specs.declared.calls.Call.{Call}
use Rattle.base_types.specs.declared.calls.Mode.TheVariants.{Update}
use Rattle.base_types.specs.declared.calls.Outcome.{Outcome}
use Rattle.base_types.specs.declared.calls.Value.{Value}
use Rattle.script_tree.specs.declared.options.MethodKind.{MethodKind}
use Rattle.script_tree.specs.Programs.{ProgramTree}
use Rattle.script_values.specs.Faults.{depth}
use Rattle.script_holding.specs.Holding.{Holding}
use Rattle.script_meaning.specs.Requests.{Requests, End, AskLock, AskRaise, AskUnit, stop}
use Rattle.script_meaning.specs.Calls.{joined}
use Rattle.script_meaning.specs.Play.{GrainState, Want, WantLock, WantRaise, WantUnit, Over, Played, at_start, ends_unit, rest_of, unit}
use Rattle.script_meaning.specs.Trails.{Given, GivenLock, GivenRaise, GivenOutcome, IsTrail, answers_of, asked_of, locks_of, reads_of}
use Rattle.script_machine.specs.declared.callees.Callee.{Callee}
use Rattle.script_machine.specs.declared.runs.Run.{Run}
use Rattle.script_machine.specs.declared.runs.Wait.{Wait}
use Rattle.script_machine.specs.declared.runs.Wait.TheVariants as wait
use Rattle.script_machine.specs.declared.machine.Machine.{Machine}
use Rattle.script_machine.specs.declared.machine.Input.{Input}
use Rattle.script_machine.specs.declared.machine.Input.TheVariants as input
use Rattle.script_machine.specs.declared.machine.Pause.{Pause}
use Rattle.script_machine.specs.declared.machine.Pause.TheVariants.{NeedGrain, NeedUnit, Done}
use Rattle.script_machine.specs.declared.machine.Parts.{Parts}
use Rattle.script_machine.specs.Callees.{post_of, target_of}
use Rattle.script_machine.specs.Frames.{begins, fields_of}
use Rattle.script_machine.specs.Runs.{running, rest_of_run}

-- what a run has before it: one that is ready goes on, one that is not waits or is over
abbrev pub rest_at : ProgramTree → Run → Bool → Requests
rest_at types run true = running types run
rest_at types run false = rest_of_run types run

-- the run that a machine still has before it
abbrev pub rest : ProgramTree → Machine → Requests
rest types machine = rest_at types machine.run machine.ready

-- whether it is past its start: it has had its first input, or it waits or is over already
abbrev pub has_begun : Machine → Bool
has_begun machine = not machine.ready

-- the states that it was given, each with its grain, in the order in which they came
abbrev pub reads_in : Machine → List GrainState
reads_in machine = machine.reads

-- the outcomes that it was given
abbrev pub answers_in : Machine → List Outcome
answers_in machine = machine.answers

-- what the unit has
abbrev pub holding_of : Machine → Holding
holding_of machine = machine.run.has

-- what is left of a run, once an input answers what it asks for
abbrev pub fed : Requests → Input → Requests
fed (AskLock grain mode go) (input.Grain state) = go state
fed (AskRaise grain left) input.Held = left
fed (AskUnit call at go) (input.Unit outcome) = go outcome
fed (End result has) one = End result has
fed (AskLock grain mode go) input.First = AskLock grain mode go
fed (AskLock grain mode go) input.Held = AskLock grain mode go
fed (AskLock grain mode go) (input.Unit outcome) = AskLock grain mode go
fed (AskRaise grain left) input.First = AskRaise grain left
fed (AskRaise grain left) (input.Grain state) = AskRaise grain left
fed (AskRaise grain left) (input.Unit outcome) = AskRaise grain left
fed (AskUnit call at go) input.First = AskUnit call at go
fed (AskUnit call at go) (input.Grain state) = AskUnit call at go
fed (AskUnit call at go) input.Held = AskUnit call at go

-- the state that was found, with its grain
abbrev pub read_by : Requests → Input → List GrainState
read_by (AskLock grain mode go) (input.Grain state) = (grain, state) ∷ []
read_by (End result has) one = []
read_by (AskLock grain mode go) input.First = []
read_by (AskLock grain mode go) input.Held = []
read_by (AskLock grain mode go) (input.Unit outcome) = []
read_by (AskRaise grain left) one = []
read_by (AskUnit call at go) one = []

-- the outcome that came
abbrev pub answered_by : Requests → Input → List Outcome
answered_by (AskUnit call at go) (input.Unit outcome) = outcome ∷ []
answered_by (End result has) one = []
answered_by (AskLock grain mode go) one = []
answered_by (AskRaise grain left) one = []
answered_by (AskUnit call at go) input.First = []
answered_by (AskUnit call at go) (input.Grain state) = []
answered_by (AskUnit call at go) input.Held = []

-- what an input gives, with what it answers
abbrev pub given_by : Requests → Input → List Given
given_by (AskLock grain mode go) (input.Grain state) = GivenLock grain mode state ∷ []
given_by (AskRaise grain left) input.Held = GivenRaise grain ∷ []
given_by (AskUnit call at go) (input.Unit outcome) = GivenOutcome call at outcome ∷ []
given_by (End result has) one = []
given_by (AskLock grain mode go) input.First = []
given_by (AskLock grain mode go) input.Held = []
given_by (AskLock grain mode go) (input.Unit outcome) = []
given_by (AskRaise grain left) input.First = []
given_by (AskRaise grain left) (input.Grain state) = []
given_by (AskRaise grain left) (input.Unit outcome) = []
given_by (AskUnit call at go) input.First = []
given_by (AskUnit call at go) (input.Grain state) = []
given_by (AskUnit call at go) input.Held = []

-- the input answers what is asked for
abbrev pub AnswersRequest : Requests → Input → Type 0
AnswersRequest (AskLock grain mode go) (input.Grain state) = Unit {0}
AnswersRequest (AskRaise grain left) input.Held = Unit {0}
AnswersRequest (AskUnit call at go) (input.Unit outcome) = Unit {0}
AnswersRequest (End result has) one = ⊥
AnswersRequest (AskLock grain mode go) input.First = ⊥
AnswersRequest (AskLock grain mode go) input.Held = ⊥
AnswersRequest (AskLock grain mode go) (input.Unit outcome) = ⊥
AnswersRequest (AskRaise grain left) input.First = ⊥
AnswersRequest (AskRaise grain left) (input.Grain state) = ⊥
AnswersRequest (AskRaise grain left) (input.Unit outcome) = ⊥
AnswersRequest (AskUnit call at go) input.First = ⊥
AnswersRequest (AskUnit call at go) (input.Grain state) = ⊥
AnswersRequest (AskUnit call at go) input.Held = ⊥

-- the first input fits always, another one where it answers what a machine past its start asks for
abbrev pub Fits : ProgramTree → Machine → Input → Type 0
Fits types machine input.First = Unit {0}
Fits types machine (input.Grain state) = (has_begun machine ≡ true) × AnswersRequest (rest types machine) (input.Grain state)
Fits types machine input.Held = (has_begun machine ≡ true) × AnswersRequest (rest types machine) input.Held
Fits types machine (input.Unit outcome) = (has_begun machine ≡ true) × AnswersRequest (rest types machine) (input.Unit outcome)

-- the pause that asks for this
abbrev pub pause_for : Want → Pause
pause_for (WantLock grain mode) = NeedGrain grain mode
pause_for (WantRaise grain) = NeedGrain grain Update
pause_for (WantUnit call at) = NeedUnit call at
pause_for (Over outcome) = Done outcome

-- an exclusive lock in place of a shared one is asked for
abbrev pub asks_raise : Requests → Bool
asks_raise (AskRaise grain left) = true
asks_raise (End result has) = false
asks_raise (AskLock grain mode go) = false
asks_raise (AskUnit call at go) = false

-- the pause says that the run is over
abbrev pub is_done : Pause → Bool
is_done (Done outcome) = true
is_done (NeedGrain grain mode) = false
is_done (NeedUnit call at) = false

-- a run that is not ready and has an outcome is over
abbrev pub is_over_at : Bool → Wait → Bool
is_over_at false (wait.Over outcome) = true
is_over_at true waits = false
is_over_at false (wait.Lock grain mode) = false
is_over_at false (wait.Raise grain) = false
is_over_at false (wait.Child call at) = false

-- the machine's run is over
abbrev pub is_over : Machine → Bool
is_over machine = is_over_at machine.ready machine.run.wait

-- a machine keeps the room that its parts need
pub record HasRoomForParts (machine : Machine) : Type 0 where
  pub none : machine.writes.items ≡ []
  pub room : length machine.run.has.held ≤ vec_capacity machine.writes

-- a machine was given this while it ran this call as a unit: just what `next` named, and the rest is left
pub record FollowsTrail (types : ProgramTree) (call : Call) (at : ℕ) (machine : Machine) (trail : List Given) : Type 0 where
  pub named : IsTrail types call at trail
  pub left : rest_of (unit types call at) (locks_of trail) (answers_of trail) ≡ rest types machine
  pub reads : reads_in machine ≡ reads_of trail
  pub answers : answers_in machine ≡ answers_of trail

-- What was given is kept: the reads and the answers are as they were, or have what this input gives behind them.
pub record KeepsGiven (types : ProgramTree) (old new : Machine) (one : Input) : Type 0 where
  pub reads : (reads_in new ≡ reads_in old) ⊎ (reads_in new ≡ reads_in old ++ read_by (rest types old) one)
  pub answers : (answers_in new ≡ answers_in old) ⊎ (answers_in new ≡ answers_in old ++ answered_by (rest types old) one)

-- these parts are those of this play, and answer what it asks for
pub record IsPartsOf (parts : Parts) (trail : List Given) (played : Played) : Type 0 where
  pub result : played.result ≡ parts.result
  pub reads : played.reads ≡ parts.reads
  pub writes : played.writes ≡ parts.writes
  pub answers : answers_of trail ≡ parts.answers
  pub asked : played.asked ≡ asked_of trail

-- a unit's first frame, where so many may be open from it on
abbrev pub first_opened : ProgramTree → ℕ → Callee → MethodKind → Bool → List Value → ℕ → Requests
first_opened types zero callee kind context args at = stop depth at_start
first_opened types (suc n) callee kind context args at =
    joined kind callee.grain (fields_of (slice_get types callee.grain.kind)) (begins types (post_of callee kind context at) (target_of callee) args ends_unit) at_start
