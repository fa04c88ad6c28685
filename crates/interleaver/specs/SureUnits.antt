-- Which units lack no grain for sure, so that the pass of a turn needn't ask them.
use Rattle.std.specs.Prelude.{◌≡◌, ◌<◌, ◌≤◌, ℕ, true, List, Option, Some}
use Rattle.cell_memory.specs.SpareMemory.{has_space}
use Rattle.core_model.specs.CoreState.{UnitNo, GrainId, Mode, Member}
use Rattle.core_model.specs.Laws.{extended}
use Rattle.core_model.specs.LockAnswers.{IsGoing}
use Rattle.core_model.specs.Tests.{is_running}
use Rattle.core_model.specs.declared.events.CoreEvent.{CoreEvent}
use Rattle.core_model.specs.LegalRuns.{Run, ends}
use Rattle.script_tree.specs.Programs.{ProgramTree}
use Rattle.script_meaning.specs.Play.{Want}
use Rattle.promise_spec.specs.TurnRule.{lock_asked}
use Rattle.promise_spec.specs.UnitAnswers.{got_in, wanted_by}
use Rattle.txn_agent.specs.declared.agent.Agent.{Agent}
use Rattle.unit_carrier.specs.CarriedUnits.{unit_at}

-- The grain was in memory once: where this run had come to.
pub record WasHere (r : Run) (g : GrainId) : Type 0 where
  pub before : Run
  pub more : List CoreEvent
  pub run : r ≡ extended before more
  pub first : 0 < before.base
  pub here : (ends before).cells.here g ≡ true

-- Where the unit runs, it has heard of its children; and if its script asks for a lock, the grain of that was in memory once.
pub record NeedsNone (types : ProgramTree) (r : Run) (u : UnitNo) : Type 0 where
  pub told : is_running ((ends r).units.phase u) ≡ true → (x : Want) × (wanted_by types (ends r) u (got_in r u) ≡ Some x)
  pub was : (g : GrainId) (mode : Mode) → is_running ((ends r).units.phase u) ≡ true → lock_asked types (ends r) (got_in r) u ≡ Some (g, mode) → WasHere r g

-- So it is of the units below a number, but for the one that moved, where there is no doubt and no stop; and the number isn't
-- above that of the unit that begins next.
pub record AreSure (types : ProgramTree) (r : Run) (units : List UnitNo) (sure : ℕ) (moved : Option UnitNo) : Type 0 where
  pub below : sure ≤ (ends r).units.next
  pub need : IsGoing (ends r) → (u : UnitNo) → Member u units → u.0 < sure → (moved ≡ Some u → ⊥) → NeedsNone types r u

-- the units from one index up to another are below the number, and none of them is the one that moved
abbrev pub AreSureFrom : ℕ → Option UnitNo → List Agent → ℕ → ℕ → Type 0
AreSureFrom sure moved agents from end =
    (i : ℕ) → from ≤ i → i < end → ((unit_at agents i).0 < sure) × (moved ≡ Some (unit_at agents i) → ⊥)

-- nothing came, and where there is no doubt and no stop the unit lacks none
abbrev pub LacksNone : ProgramTree → Run → Run → UnitNo → Type 0
LacksNone types r r' u = (r' ≡ r) × (IsGoing (ends r) → NeedsNone types r u)

-- where there is no doubt and no stop each of the units lacks none
abbrev pub LackNone : ProgramTree → Run → List UnitNo → Type 0
LackNone types r units = IsGoing (ends r) → (u : UnitNo) → Member u units → NeedsNone types r u

-- none is below the number but where memory has space for one grain more
abbrev pub SureBySpace : ℕ → Run → Type 0
SureBySpace sure r = 0 < sure → has_space (ends r).cells ≡ true
