-- What a loop of turns keeps.
use Rattle.std.specs.Prelude.{◌≡◌, ◌⊎◌, ◌<◌, ◌≤◌, ℕ, List, [], ◌∷◌, ◌++◌, length, get_or, Bool, true, false, Option, Some, None, is_some}
use Rattle.cell_model.specs.Units.{UnitsAscend}
use Rattle.core_model.specs.CoreState.{UnitNo, GrainId, Member, Mode, same_grain, CoreState}
use Rattle.core_model.specs.Tests.{is_running}
use Rattle.core_model.specs.WantedGrains.{next_wanted}
use Rattle.core_model.specs.Changes.{new_unit}
use Rattle.core_model.specs.declared.events.CoreEvent.{CoreEvent}
use Rattle.core_model.specs.LegalRuns.{Run, ends}
use Rattle.promise_spec.specs.UnitRule.{Basis, KeepsUnitRule}
use Rattle.script_tree.specs.Programs.{ProgramTree}
use Rattle.promise_spec.specs.Cores.{applied_in}
use Rattle.promise_spec.specs.UnitAnswers.{got_in}
use Rattle.promise_spec.specs.TurnRule.{Mover, KeepsTurnRule, can_move, lock_asked, passed, picked, picks_used, waits_for_load}
use Rattle.turn_rules.specs.NextEvent.{with_event}
use Rattle.turn_rules.specs.CarriedUnits.{AreKept, movers_of, can_begin_by}
use Rattle.turn_rules.specs.Windows.{InWindow}

-- of the wanted grains that one alone isn't in memory, or none
abbrev pub MissesOnly : Option GrainId → CoreState → Type 0
MissesOnly None w = next_wanted w ≡ None
MissesOnly (Some g) w = (next_wanted w ≡ Some g) × ((x : UnitNo × GrainId) → Member x w.units.wants → same_grain x.1 g ≡ false → w.cells.here x.1 ≡ true)

-- How far the pass of a turn has come: to the units below a number, whom of them wanted a grain last, told by one more than its number,
-- 0 where none did; and the grain that is wanted and isn't in memory yet, if one is.
pub record Pass : Type 0 where
  pub before : ℕ
  pub last : ℕ
  pub due : Option GrainId

-- no pass has begun
abbrev pub no_pass : Pass
no_pass = record { before = 0; last = 0; due = None }

-- the unit waits for a grain to be brought into memory
abbrev pub waits_in : ProgramTree → Run → UnitNo → Bool
waits_in types r u = waits_for_load (ends r) u (lock_asked types (ends r) (got_in r) u)

-- The unit that wanted its grain last runs and asks for that grain's lock, and nobody has one of it; once the grain is in memory the
-- unit can move.
abbrev pub HasWished : ProgramTree → Run → Option GrainId → Type 0
HasWished types r (Some g) = (u : UnitNo) × (mode : Mode) × (is_running ((ends r).units.phase u) ≡ true) × (lock_asked types (ends r) (got_in r) u ≡ Some (g, mode)) × ((ends r).cells.holds g ≡ [])
HasWished types r None = (u : UnitNo) × (can_move types (ends r) (got_in r) u ≡ true)

-- The pass stands so in the run: that grain alone is missing; the units that it has passed since the last wish wait for none; whoever
-- wished last goes on; and the run's own events tell how far it has come.
pub record IsPassing (types : ProgramTree) (ruled : Bool) (r : Run) (p : Pass) : Type 0 where
  pub missing : MissesOnly p.due (ends r)
  pub asked : (u : UnitNo) → p.last ≤ u.0 → u.0 < p.before → waits_in types r u ≡ false
  pub wished : (p.last ≡ 0) ⊎ HasWished types r p.due
  pub after : p.last ≤ p.before
  pub still : is_some p.due ≡ true → p.before ≤ p.last
  pub reached : ruled ≡ true → passed (applied_in r) ≡ p.last

-- Where a loop of turns stands: what the unit rule is told, whether the input comes in windows, whether the run so far is of turns
-- alone, the width and the picks, the run so far, the units that are looked at, how many picks were used, and how far the pass of this
-- turn has come.
pub record TurnLoop : Type 0 where
  pub basis : Basis
  pub windowed : Bool
  pub ruled : Bool
  pub width : ℕ
  pub picks : List ℕ
  pub run : Run
  pub units : List UnitNo
  pub used : ℕ
  pub pass : Pass

-- The run keeps the unit rule and isn't stopped, and the pass stands as it is told; the units that are looked at are in number order, and leave no mover out. Where the
-- run so far is of turns alone, it keeps the turn rule too, is within a window, and so many picks were used.
pub record IsTurning (l : TurnLoop) : Type 0 where
  pub first : 0 < l.run.base
  pub passing : IsPassing l.basis.types l.ruled l.run l.pass
  pub unit_rule : KeepsUnitRule l.basis l.run
  pub unstopped : (ends l.run).units.halt ≡ false
  pub turn_rule : l.ruled ≡ true → KeepsTurnRule l.basis.types l.windowed (length l.basis.lines) l.width l.picks l.run
  pub within : l.ruled ≡ true → InWindow l.basis.types l.windowed (length l.basis.lines) l.run
  pub kept : AreKept l.run l.units
  pub older : UnitsAscend l.units
  pub count : l.ruled ≡ true → l.used ≡ picks_used l.run (length l.run.events)

-- a line may begin
abbrev pub has_room : TurnLoop → Bool
has_room l = can_begin_by l.width (length l.basis.lines) l.run l.units

-- The pass has come to its end: no wanted grain is missing, and each unit was asked, unless there is a doubt.
pub record IsThrough (l : TurnLoop) : Type 0 where
  pub none_due : l.pass.due ≡ None
  pub all : (is_some (ends l.run).manager.doubt ≡ true) ⊎ ((ends l.run).units.next ≤ l.pass.before)

-- It is this mover's turn: no line may begin, nobody wants a grain, and it is the one at the pick.
pub record IsPicked (l : TurnLoop) (m : Mover) : Type 0 where
  pub none : has_room l ≡ false
  pub through : IsThrough l
  pub pick : picked (movers_of l.basis.types l.run l.units) (get_or l.picks l.used 0) ≡ Some m

-- the units that are looked at, and behind them the one that begins next
abbrev pub with_new : TurnLoop → List UnitNo
with_new l = l.units ++ (new_unit (ends l.run) ∷ [])

-- one event more, with these units looked at and so many picks used, before the next pass
abbrev pub turned : TurnLoop → CoreEvent → List UnitNo → ℕ → TurnLoop
turned l e units used = record l { run = with_event l.run e; units = units; used = used; pass = no_pass }

-- one event more of the pass, which stands so then
abbrev pub passed_on : TurnLoop → CoreEvent → Pass → TurnLoop
passed_on l e p = record l { run = with_event l.run e; pass = p }
