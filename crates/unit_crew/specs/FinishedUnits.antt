-- What is left of the units that a worker began, and what a look showed.
use Rattle.std.specs.Prelude.{◌≡◌, ◌⊎◌, ◌<◌, ◌+◌, ℕ, ◌||◌, is_some, true, false, List}
use Rattle.cell_model.specs.Locks.{holds_lock}
use Rattle.core_model.specs.LockAnswers.{IsGoing}
use Rattle.core_model.specs.CoreState.{UnitNo, GrainId}
use Rattle.core_model.specs.declared.phases.Phase.TheVariants.{Running}
use Rattle.core_model.specs.Tests.{is_over}
use Rattle.core_model.specs.LegalRuns.{Run, ends}
use Rattle.core_access.specs.Histories.{Told, run_after}
use Rattle.core_access.specs.Sights.{Sight, IfAlone}
use Rattle.turn_cell.specs.History.{StartsWith}
use Rattle.worker_rules.specs.UnitOwnership.{leaves_unit, BeganHere}

-- ---- units

-- The unit is over, and holds no lock.
pub record HasLetGo (r : Run) (u : UnitNo) : Type 0 where
  pub above : 0 < r.base
  pub over : is_over ((ends r).units.phase u) ≡ true
  pub locks : (g : GrainId) → holds_lock u ((ends r).cells.holds g) ≡ false

-- The unit runs, but there is a doubt, or the run is to stop.
pub record IsHeldUp (r : Run) (u : UnitNo) : Type 0 where
  pub above : 0 < r.base
  pub running : (ends r).units.phase u ≡ Running
  pub stopped : IsGoing (ends r) → ⊥

-- the unit has no event left, whatever others do
abbrev pub IsThrough : Run → UnitNo → Type 0
IsThrough r u = HasLetGo r u ⊎ IsHeldUp r u

-- each unit that began by an own entry is through, if nobody else made an event of it
abbrev pub AreThrough : Sight → Type 0
AreThrough s = (u : UnitNo) → BeganHere u s → IfAlone (leaves_unit u) s (λ r. IsThrough r u)

-- ---- what a look showed

-- a stop or a doubt stands
abbrev pub IsHalted : Run → Type 0
IsHalted r = ((ends r).units.halt || is_some (ends r).manager.doubt) ≡ true

-- no line behind this one is left
abbrev pub IsPastLine : ℕ → Run → Type 0
IsPastLine last r = last < (ends r).units.lines + 1

-- this held of the run at a look, up to which all was seen
abbrev pub Showed : (Run → Type 0) → Sight → Type 0
Showed P s = (seen : List Told) × StartsWith s.seen seen × P (run_after s.first seen)
