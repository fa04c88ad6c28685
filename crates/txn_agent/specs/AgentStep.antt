-- What one step of an agent does, and what each of its answers says.
use Rattle.std.specs.Prelude.{◌≡◌, ◌==◌, ◌⊎◌, ℕ, List, length, filter, not, Bool, true, false, Some, None, Result, IfOk, ⊤}
use Rattle.base_types.specs.declared.calls.Mode.{Mode}
use Rattle.base_types.specs.declared.calls.Origin.TheVariants.{Child}
use Rattle.core_model.specs.CoreState.{UnitNo, GrainId, Value, Call, same_grain, CoreState}
use Rattle.core_model.specs.declared.events.CoreEvent.{CoreEvent}
use Rattle.core_model.specs.declared.events.CoreEvent.TheVariants as event
use Rattle.core_model.specs.declared.events.CoreReply.{CoreReply}
use Rattle.core_model.specs.declared.events.CoreReply.TheVariants as reply
use Rattle.core_model.specs.declared.questions.AskAnswer.TheVariants.{MustWait, Absent}
use Rattle.core_model.specs.Events.{applies, can}
use Rattle.core_model.specs.LockAnswers.{IsGoing}
use Rattle.core_model.specs.Tests.{ask_answer, is_free, is_over, outcome_of}
use Rattle.core_model.specs.LegalRuns.{Run, ends}
use Rattle.core_access.specs.FitAccess.{StaysFit}
use Rattle.core_access.specs.Sights.{Sight, run_seen, saw, Looks, Tells, IfAlone}
use Rattle.script_tree.specs.Programs.{ProgramTree}
use Rattle.script_meaning.specs.Trails.{Given}
use Rattle.promise_spec.specs.UnitAnswers.{got_in, wanted_by, wanted_lock}
use Rattle.promise_spec.specs.UnitRule.{Basis}
use Rattle.promise_spec.specs.TurnRule.{OfUnit, lock_asked, mover_of}
use Rattle.turn_rules.specs.NextEvent.{is_own, with_event, MayCome}
use Rattle.turn_rules.specs.Links.{IsAwaiting}
use Rattle.worker_rules.specs.UnitOwnership.{leaves_unit}
use Rattle.txn_agent.specs.declared.agent.Advanced.{Advanced}
use Rattle.txn_agent.specs.declared.agent.Advanced.TheVariants.{Moved, Granted, Began, Waits, WaitsLoad, WaitsFor, Ended}
use Rattle.txn_agent.specs.declared.work.Carried.{Carried}
use Rattle.txn_agent.specs.declared.work.Doing.{Doing}
use Rattle.txn_agent.specs.declared.work.Doing.TheVariants.{Asks, Awaits, Frees, Stopped}
use Rattle.txn_agent.specs.CoreLink.{KnowsDoing}

-- the event keeps the unit rule there, whatever lines and log the rule is told of
abbrev pub IsDueFor : ProgramTree → Run → CoreEvent → Type 0
IsDueFor types r e = (b : Basis) → b.types ≡ types → MayCome b r e

-- The unit has no event left that applies: it is over and holds no lock, unless there is a doubt or a stop.
pub record HasNoEventLeft (w : CoreState) (u : UnitNo) : Type 0 where
  pub none : (e : CoreEvent) → is_own u e ≡ true → applies w e ≡ false
  pub over : IsGoing w → (is_over (w.units.phase u) ≡ true) × (is_free w u ≡ true)

module _ (may_come : CoreEvent → Bool) (types : ProgramTree) (u : UnitNo) (s : Sight) where
  -- This event of the unit was put, with that reply. It is due there, if nobody else made an event of the unit.
  pub record Puts (e : CoreEvent) (r : CoreReply) (t : Sight) : Type 0 where
    pub told : Tells may_come s e r t
    pub own : mover_of e ≡ OfUnit u
    pub due : IfAlone (leaves_unit u) (saw s told.rest) (λ x. IsDueFor types x e)

  -- what one call does: others may have put events, and then at most one event of the unit was put
  abbrev pub Acts : Sight → Type 0
  Acts t = Looks may_come s t ⊎ ((e : CoreEvent) × ((r : CoreReply) × Puts e r t))

  -- The script asks for a lock, and the core showed a younger holder in a mode that conflicts.
  pub record WaitsBehind (holder : UnitNo) (t : Sight) : Type 0 where
    pub looked : Looks may_come s t
    pub grain : GrainId
    pub mode : Mode
    pub wants : IfAlone (leaves_unit u) t (λ r. wanted_lock (wanted_by types (ends r) u (got_in r u)) ≡ Some (grain, mode))
    pub asked : ask_answer (ends (run_seen t)) u grain mode ≡ MustWait holder

  -- The script asks for a lock, and the core showed that the grain isn't in memory.
  pub record WaitsForLoad (grain : GrainId) (t : Sight) : Type 0 where
    pub looked : Looks may_come s t
    pub mode : Mode
    pub wants : IfAlone (leaves_unit u) t (λ r. lock_asked types (ends r) (got_in r) u ≡ Some (grain, mode))
    pub asked : ask_answer (ends (run_seen t)) u grain mode ≡ Absent

  -- The script waits for the unit's last child, and the core showed that it isn't decided.
  pub record WaitsForChild (child : UnitNo) (t : Sight) : Type 0 where
    pub looked : Looks may_come s t
    pub undecided : outcome_of (ends (run_seen t)) child ≡ None
    pub last : IfAlone (leaves_unit u) t (λ r. (call : Call) × ((depth : ℕ) × ((trail : List Given) × IsAwaiting r u child call depth trail)))

  -- Nothing was put. Where nobody else makes events of the unit and the core has the program's types, that is never so.
  pub record Strays (t : Sight) : Type 0 where
    pub looked : Looks may_come s t
    pub never : IfAlone (leaves_unit u) t (λ r. r.kinds ≡ length types → ⊥)

-- An event that the core had shown to be possible was put, and didn't apply by then.
pub record Misses (may_come : CoreEvent → Bool) (types : ProgramTree) (u : UnitNo) (s t : Sight) : Type 0 where
  pub seen : Sight
  pub before : Looks may_come s seen
  pub e : CoreEvent
  pub r : CoreReply
  pub put : Puts may_come types u seen e r t
  pub shown : IfAlone (leaves_unit u) seen (λ x. can (ends x) e ≡ true)
  pub missed : applies (ends (run_seen (saw seen put.told.rest))) e ≡ false

-- how many units of its own a unit has begun, while it runs
abbrev pub children_of : Doing → ℕ
children_of (Asks work pause) = work.kids
children_of (Awaits work child) = work.kids
children_of (Frees held) = 0
children_of Stopped = 0

-- the unit is over, and no lock of it is left
abbrev pub has_freed_all : Doing → Bool
has_freed_all (Asks work pause) = false
has_freed_all (Awaits work child) = false
has_freed_all (Frees held) = length held == 0
has_freed_all Stopped = false

-- the unit is over, whether or not locks of it are left
abbrev pub is_freeing : Doing → Bool
is_freeing (Asks work pause) = false
is_freeing (Awaits work child) = false
is_freeing (Frees held) = true
is_freeing Stopped = false

-- the unit waits for its child
abbrev pub is_awaiting : Doing → Bool
is_awaiting (Asks work pause) = false
is_awaiting (Awaits work child) = true
is_awaiting (Frees held) = false
is_awaiting Stopped = false

-- where a unit waits for its child still, the core showed that the child isn't decided
abbrev pub Hears : Sight → Doing → Type 0
Hears s (Asks work pause) = ⊤
Hears s (Awaits work child) = outcome_of (ends (run_seen s)) child ≡ None
Hears s (Frees held) = ⊤
Hears s Stopped = ⊤

-- these grains but for one
abbrev pub all_but : GrainId → List GrainId → List GrainId
all_but g held = filter (λ h. not (same_grain h g)) held

-- What each answer says, by what was put or seen in the call. A child that began has the number of those that the unit had
-- begun before it.
abbrev pub AnswerSays : (CoreEvent → Bool) → ProgramTree → UnitNo → ℕ → Sight → Sight → Advanced → Type 0
AnswerSays may types u kids s t (Granted grain source) = (mode : Mode) × ((state : List Value) × Puts may types u s (event.Grant u grain mode) (reply.Granted state source) t)
AnswerSays may types u kids s t (Began child call depth) = Puts may types u s (event.Begin (Child u kids depth) call false) (reply.Began child) t
AnswerSays may types u kids s t (Waits holder) = WaitsBehind may types u s holder t
AnswerSays may types u kids s t (WaitsLoad grain) = WaitsForLoad may types u s grain t
AnswerSays may types u kids s t (WaitsFor child) = WaitsForChild may types u s child t
AnswerSays may types u kids s t Ended = Looks may s t × IfAlone (leaves_unit u) t (λ r. HasNoEventLeft (ends r) u)
AnswerSays may types u kids s t Moved = ((e : CoreEvent) × Puts may types u s e reply.Done t) ⊎ (Misses may types u s t ⊎ Strays may types u s t)

-- What a function that goes on by at most one event of the unit leaves: an access that may still be used, and what was put, where
-- memory was wanting too; where it answers, what the answer says, and what is known of what the unit does from then on. The unit has
-- begun so many units of its own before.
pub record HasStepped {Access Aside E : Type 0} (is_fit : Access → Type 0) (aside : Access → Aside) (may_come : CoreEvent → Bool) (sight : Access → Sight)
    (types : ProgramTree) (c : Carried) (kids : ℕ) (old new : Access) (result : Result (Doing × Advanced) E) : Type 0 where
  pub kept : StaysFit (is_fit new) (aside old) (aside new)
  pub acts : Acts may_come types c.unit (sight old) (sight new)
  pub told : IfOk result (λ made. AnswerSays may_come types c.unit kids (sight old) (sight new) made.1)
  pub doing : IfOk result (λ made. KnowsDoing types (sight new) c made.0)

-- the answer says that an event of the unit was put
abbrev pub is_move : Advanced → Bool
is_move Moved = true
is_move (Granted grain source) = true
is_move (Began child call depth) = true
is_move (Waits holder) = false
is_move (WaitsLoad grain) = false
is_move (WaitsFor child) = false
is_move Ended = false

-- An event of the unit that applies is all by which the run goes on.
pub record GoesByEvent (u : UnitNo) (r r' : Run) : Type 0 where
  pub e : CoreEvent
  pub own : mover_of e ≡ OfUnit u
  pub applied : applies (ends r) e ≡ true
  pub run : r' ≡ with_event r e
