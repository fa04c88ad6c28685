-- The units that a run's loop has to look at, in place of all units of the run.
use Rattle.std.specs.Prelude.{◌≡◌, ◌<◌, ℕ, List, [], ◌∷◌, ◌++◌, Bool, ◌&&◌, ◌||◌, not, if◌then◌else◌, filter, map, length, nat_lt, is_none, is_some}
use Rattle.core_model.specs.CoreState.{UnitNo, Member, CoreState}
use Rattle.core_model.specs.Tests.{is_running, is_over, is_free}
use Rattle.core_model.specs.LegalRuns.{Run, ends}
use Rattle.script_tree.specs.Programs.{ProgramTree}
use Rattle.core_model.specs.Settler.{has_step, settler_step}
use Rattle.promise_spec.specs.TurnRule.{Mover, OfUnit, OfSettler, can_move, is_line, is_settled, units_of}
use Rattle.promise_spec.specs.UnitAnswers.{got_in}

-- the unit runs, or has a lock left
abbrev pub is_live : CoreState → UnitNo → Bool
is_live w u = is_running (w.units.phase u) || (is_over (w.units.phase u) && not (is_free w u))

-- the unit is a line's that is in flight
abbrev pub is_flying : CoreState → UnitNo → Bool
is_flying w u = is_line (w.units.origin u) && (not (is_settled w u) || not (is_free w u))

-- the unit is to be looked at still
abbrev pub is_kept : CoreState → UnitNo → Bool
is_kept w u = is_live w u || is_flying w u

-- these units are all of the run that are to be looked at, in number order, with others that aren't
pub record AreKept (r : Run) (units : List UnitNo) : Type 0 where
  pub kept : filter (is_kept (ends r)) units ≡ filter (is_kept (ends r)) (units_of r (ends r))
  pub below : (u : UnitNo) → Member u units → u.0 < (ends r).units.next

-- the movers among these units
abbrev pub movers_of : ProgramTree → Run → List UnitNo → List Mover
movers_of types r units =
    (if is_some (ends r).manager.doubt then [] else map OfUnit (filter (can_move types (ends r) (got_in r)) units))
    ++ (if has_step (settler_step (ends r)) then OfSettler ∷ [] else [])

-- a line is left, fewer of these than the width are in flight, and there is no doubt
abbrev pub can_begin_by : ℕ → ℕ → Run → List UnitNo → Bool
can_begin_by width lines r units =
    is_none (ends r).manager.doubt && (nat_lt (length (filter (is_flying (ends r)) units)) width && nat_lt (ends r).units.lines lines)
