-- The units that a loop of turns carries, and whose move it is.
use Rattle.std.specs.Prelude.{◌≡◌, ◌<◌, ℕ, nat_lt, Bool, ◌&&◌, ◌||◌, not, if◌then◌else◌, List, count_by, filter, slice_get, [], Option, None, Some, ⊤}
use Rattle.request_wire.specs.declared.requests.Line.{Line}
use Rattle.core_model.specs.CoreState.{UnitNo, CoreState}
use Rattle.core_model.specs.Tests.{is_decided}
use Rattle.core_model.specs.LegalRuns.{Run}
use Rattle.script_tree.specs.Programs.{ProgramTree}
use Rattle.promise_spec.specs.TurnRule.{OfUnit, OfSettler, is_line, picked}
use Rattle.turn_rules.specs.CarriedUnits.{movers_of}
use Rattle.turn_rules.specs.TurnLoop.{TurnLoop, Pass}
use Rattle.txn_agent.specs.declared.agent.Agent.{Agent}
use Rattle.txn_agent.specs.AgentStep.{has_freed_all}
use Rattle.unit_carrier.specs.CarriedUnits.{units_carried}
use Rattle.run_books.specs.Beginnings.{Outset, basis_of}
use Rattle.interleaver.specs.declared.movers.NextMover.{NextMover}
use Rattle.interleaver.specs.declared.movers.NextMover.TheVariants.{Unit as OfIndex, Settler as TheSettler, Nobody}

-- the unit has an event left, or is a line's that isn't settled
abbrev pub is_flown : CoreState → Agent → Bool
is_flown w a = not (has_freed_all a.doing) || (is_line a.carried.origin && not (is_decided w a.carried.unit))

-- the unit is a line's that isn't decided
abbrev pub is_open_line : CoreState → Agent → Bool
is_open_line w a = is_line a.carried.origin && not (is_decided w a.carried.unit)

-- the units that are to be looked at, or all where something is in doubt
abbrev pub flown_unless : Bool → CoreState → List Agent → List Agent
flown_unless doubted w agents = if doubted then agents else filter (is_flown w) agents

-- where a loop of turns stands
abbrev pub loop_at : Outset → Run → List Agent → ℕ → Pass → TurnLoop
loop_at o r agents used pass = record { basis = basis_of o; windowed = o.windowed; ruled = o.ruled; width = o.width; picks = o.picks; run = r; units = units_carried agents; used = used; pass = pass }

-- it is the mover at the pick; where nobody is, there is none
abbrev pub IsNextMover : ProgramTree → Run → List UnitNo → ℕ → NextMover → Type 0
IsNextMover types r units pick (OfIndex index) = (u : UnitNo) × (slice_get units index ≡ Some u) × (picked (movers_of types r units) pick ≡ Some (OfUnit u))
IsNextMover types r units pick TheSettler = picked (movers_of types r units) pick ≡ Some OfSettler
IsNextMover types r units pick Nobody = movers_of types r units ≡ []

-- a unit that is the next mover is one of so many
abbrev pub MovesWithin : NextMover → ℕ → Type 0
MovesWithin (OfIndex index) many = index < many
MovesWithin TheSettler many = ⊤
MovesWithin Nobody many = ⊤

-- how many of these units are lines'
abbrev pub lines_carried : List Agent → ℕ
lines_carried agents = count_by (λ (a : Agent). is_line a.carried.origin) agents

-- the line that begins next, where one may: nothing is in doubt, and fewer lines than the width are carried
abbrev pub next_line_by : Bool → List Agent → ℕ → ℕ → List Line → Option Line
next_line_by doubted agents width begun lines = if doubted || not (nat_lt (lines_carried agents) width) then None else slice_get lines begun
