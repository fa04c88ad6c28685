-- What a worker's pass brings back, and what is known of several.
use Rattle.std.specs.Prelude.{◌≡◌, ◌+◌, ◌≤◌, ℕ, List, [], length, ⊤, ◌<◌}
use Rattle.atomic_table.specs.Seated.{TableId}
use Rattle.atomic_table.specs.declared.shared.Seat.{Seat}
use Rattle.request_wire.specs.declared.requests.Line.{Line}
use Rattle.script_tree.specs.Programs.{ProgramTree}
use Rattle.core_model.specs.declared.events.CoreEvent.{CoreEvent}
use Rattle.core_model.specs.declared.events.CoreReply.{CoreReply}
use Rattle.core_model.specs.LegalRuns.{Run, ends}
use Rattle.core_access.specs.Histories.{Told}
use Rattle.core_access.specs.Sights.{Sight, Counts}
use Rattle.history_core.specs.Cores.{CoreData, run_of}
use Rattle.promise_spec.specs.UnitRule.{Basis}
use Rattle.turn_cell.specs.declared.place.Place.{Place}
use Rattle.turn_cell.specs.declared.view.View.{View}
use Rattle.turn_cell.specs.Passes.{IsPassOf, pass_view}
use Rattle.unit_crew.specs.Crews.{IsBasisOf}
use Rattle.worker_rules.specs.UnitOwnership.{KeepsPromise}
use Rattle.worker_rules.specs.Work.{OnlyWorks}
use Rattle.worker_rules.specs.ClosedCore.{IsClosed, PutsNothing, AreOverAndFree, HasBegunLines}
use Rattle.worker_rules.specs.JoinedPasses.{Returns, GathersSights, WasShown}
use Rattle.silo_workers.specs.declared.work.WorkEnd.{WorkEnd}
use Rattle.silo_workers.specs.declared.work.WorkEnd.TheVariants.{Idle, Through, Lacking}

-- what the end of the work says of one's units
abbrev pub SaysOfUnits : WorkEnd → Sight → Type 0
SaysOfUnits Idle s = PutsNothing s
SaysOfUnits Through s = AreOverAndFree s
SaysOfUnits Lacking s = ⊤

-- Events of lines and units alone were put, and were promised for each basis that was asked; and the end says so of the units.
pub record HasWorked (Asked : Basis → Type 0) (end : WorkEnd) (s : Sight) : Type 0 where
  pub counts : Counts s
  pub works : OnlyWorks s.mine
  pub promise : (b : Basis) → Asked b → KeepsPromise b s
  pub units : SaysOfUnits end s

-- what the end of the work says of so many lines: where it is through, a look showed that all had begun, unless there was a
-- doubt or a stop
abbrev pub SaysOfLines : WorkEnd → ℕ → Run → List Told → Type 0
SaysOfLines Idle lines first seen = ⊤
SaysOfLines Through lines first seen = WasShown (HasBegunLines lines) first seen
SaysOfLines Lacking lines first seen = ⊤

-- both ends as one
abbrev pub both_ends : WorkEnd → WorkEnd → WorkEnd
both_ends Idle b = b
both_ends Through Idle = Through
both_ends Through Through = Through
both_ends Through Lacking = Lacking
both_ends Lacking b = Lacking

-- a pass of a core's cell
abbrev pub CorePass : Type 0
CorePass = Seat (Place CoreData CoreEvent CoreReply) (View CoreData CoreEvent CoreReply)

-- a pass of this cell by which nothing was put, over a run that has taken so many lines
abbrev pub IsFreshPass : TableId → ℕ → CorePass → Type 0
IsFreshPass cell before p =
    IsPassOf cell p
    × (0 < (run_of (pass_view p).first).base)
    × (before ≤ (ends (run_of (pass_view p).first)).units.lines)
    × ((pass_view p).hand.mine ≡ [])

-- a worker's pass came back, to be used with the same cell, with what is known of it where the work ended so
abbrev pub BringsBack : ProgramTree → ℕ → List Line → WorkEnd → CorePass → CorePass → Type 0
BringsBack types before lines end p q =
    IsPassOf p.table_id q
    × Returns run_of (HasWorked (IsBasisOf types before lines) end) (pass_view p) (pass_view q)
    × SaysOfLines end (before + length lines) (run_of (pass_view p).first) (pass_view q).seen

-- the calling thread's pass came back, with those of the workers joined into it, and what is known of it and of each of them
abbrev pub BringsTogether : TableId → (Sight → Type 0) → ProgramTree → ℕ → List Line → WorkEnd → CorePass → CorePass → Type 0
BringsTogether cell Own types before lines end p q =
    IsPassOf cell q
    × GathersSights run_of Own (HasWorked (IsBasisOf types before lines) end) (pass_view p) (pass_view q)
    × SaysOfLines end (before + length lines) (run_of (pass_view p).first) (pass_view q).seen

-- The core was closed, with what was known of each pass; and where the work is through, so many lines have begun, unless there is a
-- doubt or a stop.
pub record IsGathered (end : WorkEnd) (lines : ℕ) (Own Their : Sight → Type 0) (first last : Run) : Type 0 where
  pub closed : IsClosed Own Their first last
  pub shown : end ≡ Through → HasBegunLines lines last
