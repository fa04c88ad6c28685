-- What a worker knows of the units that it carries, and what its work leaves of its sight and of its promise.
use Rattle.std.specs.Prelude.{◌≡◌, ◌⊎◌, ◌+◌, ◌<◌, ℕ, List, Some, slice_get}
use Rattle.std.specs.List.{AllByRecursion}
use Rattle.cell_model.specs.Units.{UnitsAscend}
use Rattle.core_model.specs.CoreState.{UnitNo, Member}
use Rattle.core_model.specs.LegalRuns.{ends}
use Rattle.core_access.specs.Sights.{Sight, Counts, IfAlone, run_seen}
use Rattle.request_wire.specs.declared.requests.Line.{Line}
use Rattle.script_tree.specs.Programs.{ProgramTree}
use Rattle.promise_spec.specs.Lines.{ReadsLineAs}
use Rattle.promise_spec.specs.UnitRule.{Basis}
use Rattle.turn_cell.specs.History.{StartsWith}
use Rattle.worker_rules.specs.UnitOwnership.{leaves_unit, BeganHere, KeepsPromise}
use Rattle.worker_rules.specs.Work.{OnlyWorks}
use Rattle.txn_agent.specs.declared.agent.Agent.{Agent}
use Rattle.txn_agent.specs.CoreLink.{Knows}
use Rattle.unit_carrier.specs.CarriedUnits.{units_carried}
use Rattle.unit_crew.specs.FinishedUnits.{IsThrough}

-- ---- lines

-- the basis is of these types
abbrev pub HasTypes : ProgramTree → Basis → Type 0
HasTypes types b = b.types ≡ types

-- these lines stand behind so many of the basis, each with its number, and read so there
abbrev pub ReadsLinesAs : ℕ → List Line → Basis → Type 0
ReadsLinesAs before lines b = (place : ℕ) (line : Line) → slice_get lines place ≡ Some line
    → (line.number ≡ before + place + 1) × ReadsLineAs b.types b.lines (before + place + 1) line.what

-- both
abbrev pub IsBasisOf : ProgramTree → ℕ → List Line → Basis → Type 0
IsBasisOf types before lines b = HasTypes types b × ReadsLinesAs before lines b

-- ---- work

-- More was seen, and what was put is a worker's; a promise was kept by each basis of which this is asked.
pub record WorksOn (Asked : Basis → Type 0) (s t : Sight) : Type 0 where
  pub first : t.first ≡ s.first
  pub number : t.number ≡ s.number
  pub seen : StartsWith t.seen s.seen
  pub counts : Counts s → Counts t
  pub only : OnlyWorks s.mine → OnlyWorks t.mine
  pub promise : (b : Basis) → Asked b → KeepsPromise b s → KeepsPromise b t

-- the agent's unit began by an own entry
abbrev pub IsOwnUnit : Sight → Agent → Type 0
IsOwnUnit s a = BeganHere a.carried.unit s

-- The agents, in number order, know their units, which began by own entries; and each other unit that did is through.
pub record IsCrew (types : ProgramTree) (s : Sight) (agents : List Agent) : Type 0 where
  pub counts : Counts s
  pub above : 0 < s.first.base
  pub only : OnlyWorks s.mine
  pub below : (u : UnitNo) → BeganHere u s → u.0 < (ends (run_seen s)).units.next
  pub known : AllByRecursion (Knows types s) agents
  pub own : AllByRecursion (IsOwnUnit s) agents
  pub older : UnitsAscend (units_carried agents)
  pub rest : (u : UnitNo) → BeganHere u s → Member u (units_carried agents) ⊎ IfAlone (leaves_unit u) s (λ r. IsThrough r u)
