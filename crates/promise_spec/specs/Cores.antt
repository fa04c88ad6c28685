-- The core's events in a run, from where the opening log stands.
use Rattle.std.specs.Prelude.{◌≡◌, ℕ, Bool, true, List, [], ◌∷◌, length, take, slice_get, count_by, if◌then◌else◌, Option, Some, None}
use Rattle.core_model.specs.declared.phases.Phase.TheVariants.{Unborn}
use Rattle.core_model.specs.CoreState.{UnitNo, CoreState}
use Rattle.core_model.specs.declared.events.CoreEvent.{CoreEvent}
use Rattle.core_model.specs.Events.{applies, step, run}
use Rattle.core_model.specs.LegalRuns.{Run, begins}
use Rattle.script_tree.specs.Programs.{ProgramTree}
use Rattle.promise_spec.specs.Entries.{Standing}

-- how many of the grains that were used last stay in memory
abbrev pub memory_limit : Option ℕ
memory_limit = Some 4096

-- the core's run: its units are numbered from the next number on, and its grains have the states that the log stands for
abbrev pub core_from : ProgramTree → Standing → List CoreEvent → Run
core_from types standing events =
    record { base = standing.next; kinds = length types; capacity = memory_limit; opening = standing.states; events = events }

-- the state before the event at an index
abbrev pub state_before : Run → ℕ → CoreState
state_before r at = run (begins r) (take at r.events)

-- this event stands there in the list, and it applies
pub record AppliesAt (r : Run) (at : ℕ) (e : CoreEvent) : Type 0 where
  pub there : slice_get r.events at ≡ Some e
  pub applied : applies (state_before r at) e ≡ true

-- the events that applied, of a list that begins in this state
abbrev pub applied_from : CoreState → List CoreEvent → List CoreEvent
applied_from w [] = []
applied_from w (e ∷ events) = if applies w e then e ∷ applied_from (step w e) events else applied_from (step w e) events

-- the events of a run that applied
abbrev pub applied_in : Run → List CoreEvent
applied_in r = applied_from (begins r) r.events

-- how many of them are such
abbrev pub how_many : (CoreEvent → Bool) → Run → ℕ
how_many is r = count_by is (applied_in r)

-- the unit has begun
abbrev pub HasBegun : CoreState → UnitNo → Type 0
HasBegun w u = w.units.phase u ≡ Unborn → ⊥
