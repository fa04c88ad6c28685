-- The turn rule: which event a run on one thread makes next.
use Rattle.std.specs.Prelude.{◌≡◌, ℕ, zero, suc, ◌+◌, ◌-◌, ◌%◌, nat_le, nat_lt, ◌==◌, Bool, true, false, ◌&&◌, ◌||◌, not, if◌then◌else◌, List, [], ◌∷◌, ◌++◌, length, map, filter, find, fold, take, get_or, count_by, slice_get, Option, Some, None, is_some, is_none, ⊤}
use Rattle.std.specs.List.{list_any as any}
use Rattle.base_types.specs.declared.calls.Origin.{Origin}
use Rattle.base_types.specs.declared.calls.Origin.TheVariants.{Line, Child}
use Rattle.base_types.specs.declared.calls.Mode.TheVariants.{Update}
use Rattle.core_model.specs.declared.questions.AskAnswer.{AskAnswer}
use Rattle.core_model.specs.declared.questions.AskAnswer.TheVariants as answer
use Rattle.core_model.specs.CoreState.{UnitNo, GrainId, Mode, same_unit, CoreState}
use Rattle.core_model.specs.Tests.{is_running, is_over, is_free, ask_answer}
pub use Rattle.core_model.specs.Settler.{MakesEvent, IsLoadOf, batch_step, has_step, later_step, settler_step}
use Rattle.core_model.specs.WantedGrains.{next_wanted}
use Rattle.core_model.specs.declared.events.CoreEvent.{CoreEvent}
use Rattle.core_model.specs.declared.events.CoreEvent.TheVariants.{Bad, Begin, Grant, Refuse, Finish, EndPlain, EndSnapshot, Release, Want, Load}
use Rattle.core_model.specs.LegalRuns.{Run, begins}
use Rattle.script_tree.specs.Programs.{ProgramTree}
use Rattle.script_meaning.specs.Play as script
use Rattle.promise_spec.specs.Windows.{window_lines}
use Rattle.promise_spec.specs.Cores.{AppliesAt, state_before, applied_from}
use Rattle.promise_spec.specs.UnitAnswers.{Got, got_from, wanted_by, wanted_lock}

-- ---- the movers

-- who moves: a line, where it begins or is found bad; a unit that wants a grain to be brought into memory; a wanted grain, which is
-- brought; a unit; or the settler
pub data Mover : Type 0 where
  OfLine : Mover
  OfWant : UnitNo → Mover
  OfLoad : Mover
  OfUnit : UnitNo → Mover
  OfSettler : Mover

-- so many units from a number on
abbrev pub units_from : ℕ → ℕ → List UnitNo
units_from zero n = []
units_from (suc more) n = record { 0 = n } ∷ units_from more (n + 1)

-- the units of the run so far, in number order
abbrev pub units_of : Run → CoreState → List UnitNo
units_of r w = units_from (w.units.next - r.base) r.base

-- the grain isn't in memory
abbrev pub is_absent : AskAnswer → Bool
is_absent answer.Absent = true
is_absent _ = false

-- the unit must wait for younger holders of a lock, or for the grain
abbrev pub is_wait : AskAnswer → Bool
is_wait (answer.MustWait holder) = true
is_wait answer.Absent = true
is_wait _ = false

-- a unit that asks so can move now
abbrev pub is_unhindered : CoreState → UnitNo → Option script.Want → Bool
is_unhindered w u None = false
is_unhindered w u (Some (script.WantLock g mode)) = not (is_wait (ask_answer w u g mode))
is_unhindered w u (Some (script.WantRaise g)) = not (is_wait (ask_answer w u g Update))
is_unhindered w u _ = true

-- A unit can move while it runs, unless it waits for a lock, a grain or a child, and afterwards while it has a lock.
abbrev pub can_move : ProgramTree → CoreState → (UnitNo → List Got) → UnitNo → Bool
can_move types w got u =
    if is_running (w.units.phase u) then is_unhindered w u (wanted_by types w u (got u)) else is_over (w.units.phase u) && not (is_free w u)

-- the movers: the units that can move, and after them the settler where it has a step; after a doubt the settler
-- alone
abbrev pub movers : ProgramTree → Run → CoreState → (UnitNo → List Got) → List Mover
movers types r w got =
    (if is_some w.manager.doubt then [] else map OfUnit (filter (can_move types w got) (units_of r w)))
    ++ (if has_step (settler_step w) then OfSettler ∷ [] else [])

-- ---- lines

-- the unit was begun by a line
abbrev pub is_line : Origin → Bool
is_line (Line n) = true
is_line (Child parent index depth) = false

-- the unit's line has its entry
abbrev pub is_settled : CoreState → UnitNo → Bool
is_settled w u = any (λ x. same_unit x.unit u) w.manager.settled

-- how many lines are in flight: begun, and not settled yet or with a lock left
abbrev pub in_flight : Run → CoreState → ℕ
in_flight r w = count_by (λ u. is_line (w.units.origin u) && (not (is_settled w u) || not (is_free w u))) (units_of r w)

-- where the input comes in windows, one ends behind so many lines
abbrev pub at_seam : Bool → ℕ → Bool
at_seam false n = false
at_seam true n = n % window_lines == 0

-- there is no mover
abbrev pub is_nobody : List Mover → Bool
is_nobody [] = true
is_nobody (m ∷ ms) = false

-- A line is left of those that may begin, fewer than the width are in flight, and there is no doubt; and where a window ends
-- nobody can move or wants a grain: only then the next window is read.
abbrev pub line_can_begin : Bool → ℕ → ℕ → Run → CoreState → List Mover → Bool
line_can_begin windowed width lines r w ms =
    is_none w.manager.doubt && (nat_lt (in_flight r w) width
    && (nat_lt w.units.lines lines && (not (at_seam windowed w.units.lines) || is_nobody ms)))

-- ---- the pass of wishes

-- the lock that a unit's script asks for next, by what each unit got
abbrev pub lock_asked : ProgramTree → CoreState → (UnitNo → List Got) → UnitNo → Option (GrainId × Mode)
lock_asked types w got u = wanted_lock (wanted_by types w u (got u))

-- the grain for whose lock the unit's script asks isn't in memory
abbrev pub waits_for_load : CoreState → UnitNo → Option (GrainId × Mode) → Bool
waits_for_load w u None = false
waits_for_load w u (Some asked) = is_absent (ask_answer w u asked.0 asked.1)

-- how far the pass of this turn has come: to one behind the unit that wanted last, and to 0 before any did; an event that is neither a
-- wish nor a load ends it
abbrev pub passed_by : ℕ → CoreEvent → ℕ
passed_by n (Want u g) = u.0 + 1
passed_by n (Load g u state) = n
passed_by n _ = 0

-- by the events that applied, oldest first
abbrev pub passed : List CoreEvent → ℕ
passed applied = fold passed_by 0 applied

-- the next unit of the pass that wants its grain: the first of these that isn't passed and whose grain isn't in memory; none where a
-- stop or a doubt stands
abbrev pub next_wish : CoreState → List UnitNo → (UnitNo → Option (GrainId × Mode)) → ℕ → Option UnitNo
next_wish w units asks reached =
    if is_some w.manager.doubt || w.units.halt then None else find (λ u. nat_le reached u.0 && waits_for_load w u (asks u)) units

-- the movers, and before them the unit of the pass that wants its grain
abbrev pub and_wish : Option UnitNo → List Mover → List Mover
and_wish None ms = ms
and_wish (Some u) ms = OfWant u ∷ ms

-- the wanted grain that is to be brought into memory, none where a stop or a doubt stands
abbrev pub grain_due : CoreState → Option GrainId
grain_due w = if is_some w.manager.doubt || w.units.halt then None else next_wanted w

-- ---- turns

-- Whose move an event is. No turn has a halt: the settler's steps make none.
abbrev pub mover_of : CoreEvent → Mover
mover_of (Bad n why) = OfLine
mover_of (Begin (Line n) call plain) = OfLine
mover_of (Begin (Child parent index depth) call plain) = OfUnit parent
mover_of (Grant u g mode) = OfUnit u
mover_of (Refuse u g mode) = OfUnit u
mover_of (Finish u e) = OfUnit u
mover_of (EndPlain u e) = OfUnit u
mover_of (EndSnapshot u at outcome) = OfUnit u
mover_of (Release u g) = OfUnit u
mover_of (Want u g) = OfWant u
mover_of (Load g u state) = OfLoad
mover_of _ = OfSettler

-- a mover's move uses up a pick; a line's, a wish and a load don't
abbrev pub takes_pick : Mover → Bool
takes_pick (OfUnit u) = true
takes_pick OfSettler = true
takes_pick _ = false

-- how many picks were used before
abbrev pub picks_used : Run → ℕ → ℕ
picks_used r at = count_by (λ e. takes_pick (mover_of e)) (applied_from (begins r) (take at r.events))

-- the mover at a pick, which counts the movers round and round
abbrev pub picked : List Mover → ℕ → Option Mover
picked [] pick = None
picked (m ∷ ms) pick = slice_get (m ∷ ms) (pick % length (m ∷ ms))

-- whose turn it is: a wanted grain that isn't in memory is brought; else a line begins, where one can; else the next unit of the
-- pass wants its grain; else the picked mover moves
abbrev pub turn_of : Option GrainId → Bool → Option UnitNo → Option Mover → Option Mover
turn_of (Some g) begins_line wish chosen = Some OfLoad
turn_of None true wish chosen = Some OfLine
turn_of None false (Some u) chosen = Some (OfWant u)
turn_of None false None chosen = chosen

-- a load is of that grain
abbrev pub LoadsWanted : Option GrainId → CoreEvent → Type 0
LoadsWanted None e = ⊥
LoadsWanted (Some g) e = IsLoadOf g e

-- the settler's event is its step's, and a load brings the wanted grain
abbrev pub IsMadeBy : CoreState → CoreEvent → Mover → Type 0
IsMadeBy w e OfLoad = LoadsWanted (grain_due w) e
IsMadeBy w e OfSettler = MakesEvent (settler_step w) e
IsMadeBy w e _ = ⊤

-- the event is that of the turn
pub record IsTurn (begins_line : Bool) (wish : Option UnitNo) (chosen : Option Mover) (w : CoreState) (e : CoreEvent) : Type 0 where
  pub whose : turn_of (grain_due w) begins_line wish chosen ≡ Some (mover_of e)
  pub made : IsMadeBy w e (mover_of e)

-- so it is by the unit that wants its grain, the movers and the pick: whether the input comes in windows, how many lines may begin
-- and the width say whether a line begins
abbrev pub IsTurnOf : Bool → ℕ → ℕ → Run → CoreState → Option UnitNo → List Mover → ℕ → CoreEvent → Type 0
IsTurnOf windowed lines width r w wish ms pick e = IsTurn (line_can_begin windowed width lines r w (and_wish wish ms)) wish (picked ms pick) w e

-- Each event of the run that applies is that of the turn, with the picks of the list one after the other. The pick is 0 behind the
-- end of the list.
abbrev pub KeepsTurnRule : ProgramTree → Bool → ℕ → ℕ → List ℕ → Run → Type 0
KeepsTurnRule types windowed lines width picks r = (at : ℕ) (e : CoreEvent) → AppliesAt r at e →
    IsTurnOf windowed lines width r (state_before r at)
    (next_wish (state_before r at) (units_of r (state_before r at)) (lock_asked types (state_before r at) (got_from (begins r) (take at r.events)))
    (passed (applied_from (begins r) (take at r.events))))
    (movers types r (state_before r at) (got_from (begins r) (take at r.events))) (get_or picks (picks_used r at) 0) e
