-- Where the records of a run come from: its lines, and the calls that these ask for.
use Rattle.std.specs.Prelude.{◌≡◌, ℕ, ◌<◌, Bool, false, ◌&&◌, ◌==◌, if◌then◌else◌, List, [], ◌∷◌, ◌++◌, length, slice_get, Some}
use Rattle.base_types.specs.declared.calls.Call.{Call}
use Rattle.base_types.specs.declared.calls.Origin.{Origin}
use Rattle.base_types.specs.declared.calls.Origin.TheVariants.{Line, Child}
use Rattle.base_types.specs.declared.calls.Outcome.{Outcome}
use Rattle.base_types.specs.declared.calls.Outcome.TheVariants.{Aborted}
use Rattle.core_model.specs.declared.effects.Read.{Read}
use Rattle.core_model.specs.CoreState.{UnitNo, Member, CoreState}
use Rattle.script_tree.specs.Programs.{ProgramTree}
use Rattle.script_meaning.specs.Play.{play_over}
use Rattle.promise_spec.specs.Records.{Commit, States, after_writes}
use Rattle.base_types.specs.Origins.{depth_of}
use Rattle.promise_spec.specs.SerialExecution.{played}
use Rattle.promise_spec.specs.Lines.{IsLineCall}
use Rattle.promise_spec.specs.Cores.{HasBegun}

-- the origin is that of a unit's child of this index
abbrev pub is_child : UnitNo → ℕ → Origin → Bool
is_child u index (Line n) = false
is_child u index (Child parent i depth) = (parent.0 == u.0) && (i == index)

-- the outcome of a unit's child by a log: the logged result, and an abort where there is none
abbrev pub answer_of : List Commit → UnitNo → ℕ → Outcome
answer_of [] u index = Aborted
answer_of (c ∷ log) u index = if is_child u index c.logged.origin then c.logged.result else answer_of log u index

-- these answers are the outcomes of the unit's children, from the first on
abbrev pub AreAnswers : List Commit → UnitNo → List Outcome → Type 0
AreAnswers log u answers = (i : ℕ) (answer : Outcome) → slice_get answers i ≡ Some answer → answer ≡ answer_of log u i

-- the states are those that the unit was granted
abbrev pub HasGranted : CoreState → UnitNo → States → Type 0
HasGranted w u states = (r : Read) → Member r (w.units.reads u) → states r.grain ≡ r.state

-- over these states and answers the call asks for that one at this index
abbrev pub Asks : ProgramTree → States → Call → ℕ → List Outcome → ℕ → Call → ℕ → Type 0
Asks types states call depth answers index child child_depth =
    slice_get (play_over types call depth states answers).asked index ≡ Some (child, child_depth)

-- what leads from a unit of the core to its child, which the unit's call asks for over the states that the unit was
-- granted and the outcomes of the children before
pub record LeadsTo (types : ProgramTree) (w : CoreState) (log : List Commit) (parent u : UnitNo) (index depth : ℕ) : Type 0 where
  pub states : States
  pub answers : List Outcome
  pub granted : HasGranted w parent states
  pub are : AreAnswers log parent answers
  pub count : length answers ≡ index
  pub asks : Asks types states (w.units.call parent) (depth_of (w.units.origin parent)) answers index (w.units.call u) depth

-- The unit has begun, for a line and with that line's call, or as the child of such a unit, whose call asks for it.
pub data IsReached (types : ProgramTree) (lines : List (List ℕ)) (w : CoreState) (log : List Commit) : UnitNo → Type 0 where
  by_line : {u : UnitNo} (n : ℕ) → HasBegun w u → w.units.origin u ≡ Line n →
      IsLineCall types lines n (w.units.call u) → IsReached types lines w log u
  by_parent : {u : UnitNo} (parent : UnitNo) (index depth : ℕ) → HasBegun w u →
      w.units.origin u ≡ Child parent index depth → LeadsTo types w log parent u index depth →
      IsReached types lines w log parent → IsReached types lines w log u

-- the states that a log's first records leave
abbrev pub states_after : States → List Commit → States
states_after states [] = states
states_after states (c ∷ log) = states_after (after_writes states c) log

-- the record of a child stands before its parent's, whose play asks for that call and depth at the child's index
pub record IsAskedBefore (types : ProgramTree) (opening : States) (log : List Commit) (child parent : Commit) (index depth : ℕ) : Type 0 where
  pub front : List Commit
  pub back : List Commit
  pub split : log ≡ front ++ (parent ∷ back)
  pub before : Member child front
  pub asks : slice_get (played types (states_after opening front) parent.logged).asked index ≡ Some (child.logged.call, depth)

-- the record's unit is one of the core's, with the record's origin and call
pub record IsUnitOf (w : CoreState) (c : Commit) : Type 0 where
  pub origin : w.units.origin c.logged.unit ≡ c.logged.origin
  pub call : w.units.call c.logged.unit ≡ c.logged.call

-- The records that a run adds: a line's has the call that the line asks for, and no two are of one line; each has the
-- outcomes of its children as answers; a child's unit is above its parent's, and where the parent is added too, its
-- play asks for the child and its record stands later; each is reached from a line, call by call.
pub record IsFamily (types : ProgramTree) (lines : List (List ℕ)) (w : CoreState) (opening : States) (order added : List Commit) : Type 0 where
  pub line : (c : Commit) (n : ℕ) → Member c added → c.logged.origin ≡ Line n → IsLineCall types lines n c.logged.call
  pub one_each : (c d : Commit) (n : ℕ) → Member c added → Member d added → c.logged.origin ≡ Line n →
      d.logged.origin ≡ Line n → c ≡ d
  pub answers : (c : Commit) → Member c added → AreAnswers order c.logged.unit c.logged.answers
  pub younger : (c : Commit) (parent : UnitNo) (index depth : ℕ) → Member c added →
      c.logged.origin ≡ Child parent index depth → parent.0 < c.logged.unit.0
  pub asked : (c d : Commit) (index depth : ℕ) → Member c added → Member d added →
      c.logged.origin ≡ Child d.logged.unit index depth → IsAskedBefore types opening added c d index depth
  pub units : (c : Commit) → Member c added → IsUnitOf w c
  pub reached : (c : Commit) → Member c added → IsReached types lines w order c.logged.unit
