-- A unit over a store, and over what it was given so far.
use Rattle.std.specs.Prelude.{◌≡◌, ℕ, ◌+◌, ◌-◌, Bool, true, false, ◌&&◌, ◌||◌, if◌then◌else◌, nat_eq, nat_lt, List, [], ◌∷◌, map, Option, Some, None, slice_get, unwrap_or}
use Rattle.base_types.specs.Stores.{state_in}
use Rattle.base_types.specs.declared.calls.Call.{Call}
use Rattle.base_types.specs.declared.calls.GrainId.{GrainId}
use Rattle.base_types.specs.declared.calls.Mode.{Mode}
use Rattle.base_types.specs.declared.calls.Mode.TheVariants.{Read, Update}
use Rattle.base_types.specs.declared.calls.Outcome.{Outcome}
use Rattle.base_types.specs.declared.calls.Outcome.TheVariants.{Value as Valued, Fault, Aborted}
use Rattle.base_types.specs.declared.calls.Value.{Value}
use Rattle.base_types.specs.declared.stores.Store.{Store}
use Rattle.script_tree.specs.declared.options.Entered.{Entered}
use Rattle.script_tree.specs.declared.options.Entered.TheVariants.{Joined, NewUnit, Plain, Refused}
use Rattle.script_tree.specs.Options.{entered}
use Rattle.script_tree.specs.Programs.{TypeTree, ProgramTree}
use Rattle.script_values.specs.Faults.{unknown}
use Rattle.script_holding.specs.declared.held_grain.Held.{Held}
use Rattle.script_holding.specs.Limits.{step_limit, depth_limit}
use Rattle.script_holding.specs.Holding.{Holding, same_grain, initial_fields}
use Rattle.script_meaning.specs.Requests.{Requests, End, AskLock, AskRaise, AskUnit, Back, stop}
use Rattle.script_meaning.specs.Calls.{Runner, Target, numbered, enters}
use Rattle.script_meaning.specs.Statements.{deep}

-- what a unit has when it begins
abbrev pub at_start : Holding
at_start = record { left = step_limit; asked = 0; held = [] }

-- the first frame of a unit of its own is in that unit
abbrev pub as_first : Entered → Entered
as_first NewUnit = Joined
as_first Joined = Joined
as_first (Plain context) = Plain context
as_first (Refused why) = Refused why

-- a unit ends with the value of its first frame
abbrev pub ends_unit : Back
ends_unit value has = End (Valued value) has

-- a unit's first frame, whose method outside a transaction enters by its option; a fault without a method
abbrev pub first_frame : Runner → ℕ → Call → Option Target → Requests
first_frame runner depth call None = stop unknown at_start
first_frame runner depth call (Some target) =
    enters runner (as_first (entered target.method.option false)) depth call.grain target call.args ends_unit stop at_start

-- The run of a call as a unit whose first frame has this depth: 1 for a request, one more than its caller's for
-- a child.
unfoldable pub unit : ProgramTree → Call → ℕ → Requests
unit types call depth = first_frame (deep types (depth_limit + 1 - depth)) depth call (numbered (slice_get types call.grain.kind) call.method)

-- a call that is a transaction of its own: its method is there, and outside a transaction its option makes a unit
-- of its own; every other call is a plain run
abbrev pub IsTransaction : ProgramTree → Call → Type 0
IsTransaction types call =
    (target : Target) × (numbered (slice_get types call.grain.kind) call.method ≡ Some target) × (entered target.method.option false ≡ NewUnit)

-- a grain, and a state of it
abbrev pub GrainState : Type 0
GrainState = GrainId × List Value

-- the grains of these states
abbrev pub grains_with_states : List GrainState → List GrainId
grains_with_states found = map (λ one. one.0) found

-- a unit that was asked for: its call, and the depth of its first frame
abbrev pub AskedUnit : Type 0
AskedUnit = Call × ℕ

-- what a run gives: its result, the units that it asks for, the grains in the order of their first locks with
-- the states found, and the grains that it set with their last states, ascending
pub record Played : Type 0 where
  pub result : Outcome
  pub asked : List AskedUnit
  pub reads : List GrainState
  pub writes : List GrainState

-- grains in order: by type, then key
abbrev pub is_below : GrainId → GrainId → Bool
is_below one other = nat_lt one.kind other.kind || (nat_eq one.kind other.kind && nat_lt one.key other.key)

-- one more grain in an ascending list
abbrev pub insert : GrainState → List GrainState → List GrainState
insert one [] = one ∷ []
insert one (first ∷ rest) = if is_below one.0 first.0 then one ∷ first ∷ rest else first ∷ insert one rest

-- the held grains that were set, ascending, with their working states
abbrev pub states_set : List Held → List GrainState
states_set [] = []
states_set (first ∷ rest) = if first.written then insert (first.grain, first.state) (states_set rest) else states_set rest

-- what a unit writes: nothing, unless it ended with a value
abbrev pub writes_of : Outcome → Holding → List GrainState
writes_of (Valued value) has = states_set has.held
writes_of (Fault text) has = []
writes_of Aborted has = []

-- one more read, and one more unit, in front
abbrev pub reading : GrainState → Played → Played
reading found played = record { result = played.result; asked = played.asked; reads = found ∷ played.reads; writes = played.writes }

-- one more unit that was asked for, in front
abbrev pub asking : AskedUnit → Played → Played
asking asked played = record { result = played.result; asked = asked ∷ played.asked; reads = played.reads; writes = played.writes }

-- A run over these states, where the units that it asks for have these outcomes in order; a unit past the
-- last of them is aborted.
abbrev pub serve : Requests → (GrainId → List Value) → List Outcome → Played
serve (End result has) states answers = record { result = result; asked = []; reads = []; writes = writes_of result has }
serve (AskLock grain mode go) states answers = reading (grain, states grain) (serve (go (states grain)) states answers)
serve (AskRaise grain rest) states answers = serve rest states answers
serve (AskUnit call depth go) states [] = asking (call, depth) (serve (go Aborted) states [])
serve (AskUnit call depth go) states (answer ∷ answers) = asking (call, depth) (serve (go answer) states answers)

-- a grain's state in a store: a grain that isn't there has its type's initial fields
abbrev pub initial_of : Option TypeTree → List Value
initial_of None = []
initial_of (Some of_type) = initial_fields of_type.fields

-- the state that a store has for a grain, or its type's initial fields
abbrev pub found_in : ProgramTree → Store → GrainId → List Value
found_in types store grain = unwrap_or (state_in store grain) (initial_of (slice_get types grain.kind))

-- PLAY: what a call does as a unit whose first frame has this depth, over states and answers
unfoldable pub play_over : ProgramTree → Call → ℕ → (GrainId → List Value) → List Outcome → Played
play_over types call depth states answers = serve (unit types call depth) states answers

-- the same over a store
unfoldable pub play : ProgramTree → Call → ℕ → Store → List Outcome → Played
play types call depth store answers = play_over types call depth (found_in types store) answers

-- a lock that a unit was granted, with the state that came with it; a change from shared to exclusive is one
-- too, and its state isn't looked at
pub record Lock : Type 0 where
  pub grain : GrainId
  pub mode : Mode
  pub state : List Value

-- the same mode
abbrev pub same_mode : Mode → Mode → Bool
same_mode Read Read = true
same_mode Update Update = true
same_mode Read Update = false
same_mode Update Read = false

-- a lock is the one that was asked for
abbrev pub is_asked : Lock → GrainId → Mode → Bool
is_asked lock grain mode = same_grain lock.grain grain && same_mode lock.mode mode

-- what is left of a run after these locks, in the order of their grants, and these answers
abbrev pub rest_of : Requests → List Lock → List Outcome → Requests
rest_of (End result has) locks answers = End result has
rest_of (AskLock grain mode go) [] answers = AskLock grain mode go
rest_of (AskLock grain mode go) (lock ∷ locks) answers = if is_asked lock grain mode then rest_of (go lock.state) locks answers else AskLock grain mode go
rest_of (AskRaise grain rest) [] answers = AskRaise grain rest
rest_of (AskRaise grain rest) (lock ∷ locks) answers = if is_asked lock grain Update then rest_of rest locks answers else AskRaise grain rest
rest_of (AskUnit call depth go) locks [] = AskUnit call depth go
rest_of (AskUnit call depth go) locks (answer ∷ answers) = rest_of (go answer) locks answers

-- what a run asks for first: a grain's first lock, an exclusive lock in place of a shared one, a unit, or nothing
-- more
pub data Want : Type 0 where
  WantLock : GrainId → Mode → Want
  WantRaise : GrainId → Want
  WantUnit : Call → ℕ → Want
  Over : Outcome → Want

-- what these requests ask for first
abbrev pub asks : Requests → Want
asks (End result has) = Over result
asks (AskLock grain mode go) = WantLock grain mode
asks (AskRaise grain rest) = WantRaise grain
asks (AskUnit call depth go) = WantUnit call depth

-- NEXT: the first lock or child that is missing after these locks and answers, or the end
unfoldable pub next : ProgramTree → Call → ℕ → List Lock → List Outcome → Want
next types call depth locks answers = asks (rest_of (unit types call depth) locks answers)
