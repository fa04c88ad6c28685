-- A run that goes on by one event: whose event it is, what a unit gets by it, and when it may come.
use Rattle.std.specs.Prelude.{◌≡◌, ℕ, List, [], ◌∷◌, length, get_or, Bool, true, false, ◌&&◌, nat_lt, Option, None, is_none, if◌then◌else◌}
use Rattle.base_types.specs.declared.calls.Origin.TheVariants.{Line, Child}
use Rattle.core_model.specs.CoreState.{UnitNo, same_unit, CoreState}
use Rattle.core_model.specs.declared.events.CoreEvent.{CoreEvent}
use Rattle.core_model.specs.declared.events.CoreEvent.TheVariants.{Bad, Begin, Grant, Refuse, Finish, EndPlain, EndSnapshot, Release, Take, Vote, Decide, Sealed, NotSealed, Doubt, Learn, Emitted, Halt, Want, Load}
use Rattle.core_model.specs.Events.{applies}
use Rattle.core_model.specs.LegalRuns.{Run, ends}
use Rattle.core_model.specs.Laws.{extended}
use Rattle.script_tree.specs.Programs.{ProgramTree}
use Rattle.promise_spec.specs.Cores.{applied_in}
use Rattle.promise_spec.specs.UnitAnswers.{Got, got_by, got_in}
use Rattle.promise_spec.specs.UnitRule.{Basis, IsDue}
use Rattle.promise_spec.specs.TurnRule.{Mover, IsTurnOf, grain_due, in_flight, lock_asked, movers, next_wish, passed, picks_used, units_of, waits_for_load}

-- the run with one more event
abbrev pub with_event : Run → CoreEvent → Run
with_event r e = extended r (e ∷ [])

-- what a unit gets by one more event
abbrev pub got_next : CoreState → CoreEvent → UnitNo → List Got
got_next w e u = if applies w e then got_by w u e else []

-- the event is one of the unit's own; no event of a line or of the settler is one
abbrev pub is_own : UnitNo → CoreEvent → Bool
is_own u (Bad n why) = false
is_own u (Begin (Line n) call plain) = false
is_own u (Begin (Child parent index depth) call plain) = same_unit parent u
is_own u (Grant v g mode) = same_unit v u
is_own u (Refuse v g mode) = same_unit v u
is_own u (Finish v e) = same_unit v u
is_own u (EndPlain v e) = same_unit v u
is_own u (EndSnapshot v at outcome) = same_unit v u
is_own u (Release v g) = same_unit v u
is_own u (Want v g) = same_unit v u
is_own u Take = false
is_own u (Vote n g kept) = false
is_own u (Decide n) = false
is_own u (Sealed n) = false
is_own u (NotSealed n) = false
is_own u (Doubt n) = false
is_own u (Learn v g) = false
is_own u Emitted = false
is_own u Halt = false
is_own u (Load g v state) = false

-- a unit begins
abbrev pub is_begin : CoreEvent → Bool
is_begin (Begin origin call plain) = true
is_begin (Bad line why) = false
is_begin (Grant v g mode) = false
is_begin (Refuse v g mode) = false
is_begin (Finish v effect) = false
is_begin (EndPlain v effect) = false
is_begin (EndSnapshot v at outcome) = false
is_begin (Release v g) = false
is_begin Take = false
is_begin (Vote n g kept) = false
is_begin (Decide n) = false
is_begin (Sealed n) = false
is_begin (NotSealed n) = false
is_begin (Doubt n) = false
is_begin (Learn v g) = false
is_begin Emitted = false
is_begin Halt = false
is_begin (Want v g) = false
is_begin (Load g v state) = false

-- the event keeps the unit rule, where it applies
abbrev pub MayCome : Basis → Run → CoreEvent → Type 0
MayCome s r e = applies (ends r) e ≡ true → IsDue s (ends r) (got_in r) e

-- the pick of the next turn
abbrev pub next_pick : List ℕ → Run → ℕ
next_pick picks r = get_or picks (picks_used r (length r.events)) 0

-- the movers by now
abbrev pub movers_in : ProgramTree → Run → List Mover
movers_in types r = movers types r (ends r) (got_in r)

-- the next unit of the pass that wants its grain, by now
abbrev pub wish_in : ProgramTree → Run → Option UnitNo
wish_in types r = next_wish (ends r) (units_of r (ends r)) (lock_asked types (ends r) (got_in r)) (passed (applied_in r))

-- no unit waits for a grain to be brought into memory
abbrev pub NobodyWaitsForLoad : ProgramTree → Run → Type 0
NobodyWaitsForLoad types r = (u : UnitNo) → waits_for_load (ends r) u (lock_asked types (ends r) (got_in r) u) ≡ false

-- nobody can move or wants a grain, and none is due
abbrev pub NobodyGoes : ProgramTree → Run → Type 0
NobodyGoes types r = (movers_in types r ≡ []) × (wish_in types r ≡ None) × (grain_due (ends r) ≡ None)

-- a line has a place, whether its window has begun or not: one is left, fewer than the width are in flight, and there is no doubt
abbrev pub line_has_place : ℕ → ℕ → Run → Bool
line_has_place width lines r =
    is_none (ends r).manager.doubt && (nat_lt (in_flight r (ends r)) width && nat_lt (ends r).units.lines lines)

-- the event keeps the turn rule, where it applies
abbrev pub IsNext : ProgramTree → Bool → ℕ → ℕ → List ℕ → Run → CoreEvent → Type 0
IsNext types windowed lines width picks r e = applies (ends r) e ≡ true →
    IsTurnOf windowed lines width r (ends r) (wish_in types r) (movers_in types r) (next_pick picks r) e
