-- A unit's wish that a grain be brought into memory: what a call that may put one does, and what it answers.
use Rattle.std.specs.Prelude.{◌≡◌, ◌⊎◌, Bool, true, false, Some, Option, None}
use Rattle.base_types.specs.declared.calls.Mode.{Mode}
use Rattle.core_model.specs.CoreState.{UnitNo, GrainId}
use Rattle.core_model.specs.declared.events.CoreEvent.{CoreEvent}
use Rattle.core_model.specs.declared.events.CoreEvent.TheVariants.{Want}
use Rattle.core_model.specs.declared.events.CoreReply.{CoreReply}
use Rattle.core_model.specs.declared.events.CoreReply.TheVariants.{Done, Unapplied}
use Rattle.core_model.specs.declared.questions.AskAnswer.{AskAnswer}
use Rattle.core_model.specs.declared.questions.AskAnswer.TheVariants as answer
use Rattle.core_model.specs.Events.{applies}
use Rattle.core_model.specs.Tests.{is_running}
use Rattle.core_model.specs.LockAnswers.{IsGoing}
use Rattle.core_model.specs.LegalRuns.{Run, ends}
use Rattle.core_access.specs.Sights.{Sight, saw, Looks, Tells, IfAlone}
use Rattle.script_tree.specs.Programs.{ProgramTree}
use Rattle.script_machine.specs.declared.machine.Pause.TheVariants.{NeedGrain}
use Rattle.promise_spec.specs.UnitAnswers.{got_in}
use Rattle.promise_spec.specs.TurnRule.{lock_asked, waits_for_load}
use Rattle.turn_rules.specs.NextEvent.{with_event}
use Rattle.worker_rules.specs.UnitOwnership.{leaves_unit}
use Rattle.txn_agent.specs.declared.work.Doing.{Doing}
use Rattle.txn_agent.specs.declared.work.Doing.TheVariants.{Asks}
use Rattle.txn_agent.specs.AgentStep.{Hears, IsDueFor, WaitsForLoad}

-- the lock for which the script stands, if it stands for one
abbrev pub lock_of : Doing → Option (GrainId × Mode)
lock_of (Asks work (NeedGrain g mode)) = Some (g, mode)
lock_of _ = None

module _ (may_come : CoreEvent → Bool) (types : ProgramTree) (u : UnitNo) (s : Sight) where
  -- The core showed that the grain for which the script asks isn't in memory, and the unit's wish for it was put, with that
  -- reply. It is due there, if nobody else made an event of the unit.
  pub record PutsWish (r : CoreReply) (t : Sight) : Type 0 where
    pub seen : Sight
    pub grain : GrainId
    pub waits : WaitsForLoad may_come types u s grain seen
    pub told : Tells may_come seen (Want u grain) r t
    pub due : IfAlone (leaves_unit u) (saw seen told.rest) (λ x. IsDueFor types x (Want u grain))

  -- Nothing was put. Where nobody else makes events of the unit, and there is no doubt and no stop, the unit waits for no grain, if
  -- its script has heard of its child.
  pub record HasNoWish (doing : Doing) (t : Sight) : Type 0 where
    pub looked : Looks may_come s t
    pub here : Hears t doing → IfAlone (leaves_unit u) t (λ r. IsGoing (ends r) → waits_for_load (ends r) u (lock_asked types (ends r) (got_in r) u) ≡ false)

  -- what one call does: others may have put events, and then at most one wish of the unit was put
  abbrev pub Wishes : Sight → Type 0
  Wishes t = Looks may_come s t ⊎ ((r : CoreReply) × PutsWish r t)

-- What the answer says: the unit's wish was done; or there was none, or one that didn't apply.
abbrev pub WishSays : (CoreEvent → Bool) → ProgramTree → UnitNo → Doing → Sight → Sight → Bool → Type 0
WishSays may types u doing s t true = PutsWish may types u s Done t
WishSays may types u doing s t false = HasNoWish may types u s doing t ⊎ PutsWish may types u s Unapplied t

-- where the unit runs and its script asks for a lock, the grain of that is in memory
abbrev pub LacksNoGrain : ProgramTree → UnitNo → Run → Type 0
LacksNoGrain types u r = (g : GrainId) (mode : Mode) → is_running ((ends r).units.phase u) ≡ true → lock_asked types (ends r) (got_in r) u ≡ Some (g, mode)
    → (ends r).cells.here g ≡ true

-- so it is, where nobody else made an event of the unit, and there is no doubt and no stop, if its script has heard of its child
abbrev pub HasItsGrain : ProgramTree → Sight → UnitNo → Doing → Type 0
HasItsGrain types s u doing = Hears s doing → IfAlone (leaves_unit u) s (λ r. IsGoing (ends r) → LacksNoGrain types u r)

-- the core's answer to who asks for a lock shows that the grain is in memory
abbrev pub shows_grain : AskAnswer → Bool
shows_grain answer.Free = true
shows_grain answer.Held = true
shows_grain (answer.MustWait holder) = true
shows_grain (answer.MustDie holder) = true
shows_grain answer.Absent = false
shows_grain (answer.Doomed source) = false
shows_grain answer.NotActive = false

-- The unit waits for the grain of the lock for which its script asks, and its wish for that grain is all by which the run goes on.
pub record GoesByWish (types : ProgramTree) (u : UnitNo) (r r' : Run) : Type 0 where
  pub grain : GrainId
  pub mode : Mode
  pub asked : lock_asked types (ends r) (got_in r) u ≡ Some (grain, mode)
  pub waits : waits_for_load (ends r) u (lock_asked types (ends r) (got_in r) u) ≡ true
  pub applied : applies (ends r) (Want u grain) ≡ true
  pub run : r' ≡ with_event r (Want u grain)
