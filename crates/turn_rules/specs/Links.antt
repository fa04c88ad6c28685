-- What links who carries a unit to the core's run.
use Rattle.std.specs.Prelude.{◌≡◌, ℕ, List, [], ◌∷◌, ◌++◌, Bool, true, false, Some, ⊤}
use Rattle.core_model.specs.CoreState.{UnitNo, GrainId, Call, Member, same_grain}
use Rattle.core_model.specs.declared.phases.Phase.TheVariants.{Running}
use Rattle.cell_model.specs.Locks.{holds_lock}
use Rattle.core_model.specs.Tests.{any, is_over, is_before}
use Rattle.core_model.specs.declared.events.CoreEvent.{CoreEvent}
use Rattle.core_model.specs.LegalRuns.{Run, ends}
use Rattle.script_tree.specs.Programs.{ProgramTree}
use Rattle.script_meaning.specs.Play.{Want, next}
use Rattle.script_meaning.specs.Trails.{Given, locks_of, answers_of}
use Rattle.base_types.specs.Origins.{depth_of}
use Rattle.promise_spec.specs.UnitAnswers.{Got, GotChild, given_by, got_in}
use Rattle.turn_rules.specs.NextEvent.{with_event}

-- what the unit's script asks for next, where this was given to it
abbrev pub asks_next : ProgramTree → Run → UnitNo → List Given → Want
asks_next types r u trail = next types ((ends r).units.call u) (depth_of ((ends r).units.origin u)) (locks_of trail) (answers_of trail)

-- the unit runs, and this is what it was given by now
pub record HasTrail (r : Run) (u : UnitNo) (trail : List Given) : Type 0 where
  pub running : (ends r).units.phase u ≡ Running
  pub given : given_by (ends r) (got_in r u) ≡ Some trail

-- the unit runs, this is what it was given by now, and its script asks for this next
pub record AsksFor (types : ProgramTree) (r : Run) (u : UnitNo) (trail : List Given) (want : Want) : Type 0 where
  pub given : HasTrail r u trail
  pub asks : asks_next types r u trail ≡ want

-- the unit runs, and got a child after this was given
pub record IsAwaiting (r : Run) (u child : UnitNo) (call : Call) (depth : ℕ) (trail : List Given) : Type 0 where
  pub running : (ends r).units.phase u ≡ Running
  pub before : List Got
  pub got : got_in r u ≡ before ++ (GotChild call depth child ∷ [])
  pub given : given_by (ends r) before ≡ Some trail

-- no grain of the list comes before another one behind it
abbrev pub GrainsAscend : List GrainId → Type 0
GrainsAscend [] = ⊤
GrainsAscend (g ∷ gs) = ((h : GrainId) → Member h gs → is_before h g ≡ false) × GrainsAscend gs

-- the grains of the list are those of which the unit has a lock
abbrev pub HoldsLocks : Run → UnitNo → List GrainId → Type 0
HoldsLocks r u held = (g : GrainId) → holds_lock u ((ends r).cells.holds g) ≡ any (same_grain g) held

-- the unit is over, and these locks are left
pub record IsFreeing (r : Run) (u : UnitNo) (held : List GrainId) : Type 0 where
  pub over : is_over ((ends r).units.phase u) ≡ true
  pub locks : HoldsLocks r u held
  pub ascending : GrainsAscend held

-- Events that may come led from one run to another.
pub data Comes (may_come : CoreEvent → Bool) (r : Run) : Run → Type 0 where
  none : Comes may_come r r
  more : (at : Run) (e : CoreEvent) → Comes may_come r at → may_come e ≡ true → Comes may_come r (with_event at e)
