-- What links an agent to its unit in the core. All of it rests on nobody else making an event of the unit.
use Rattle.std.specs.Prelude.{◌≡◌, ◌<◌, ◌+◌, ℕ, List, [], length, map, true, false}
use Rattle.cell_model.specs.Locks.{holds_lock}
use Rattle.core_model.specs.CoreState.{UnitNo, GrainId, Call, same_grain}
use Rattle.core_model.specs.declared.phases.Phase.TheVariants.{Running}
use Rattle.core_model.specs.Tests.{any, is_over}
use Rattle.core_model.specs.Events.{holds_alone}
use Rattle.core_model.specs.LockAnswers.{IsGoing}
use Rattle.core_model.specs.LegalRuns.{Run, ends}
use Rattle.core_access.specs.Sights.{Sight, IfAlone}
use Rattle.script_tree.specs.Programs.{ProgramTree}
use Rattle.script_meaning.specs.Play.{IsTransaction, WantUnit, asks, grains_with_states}
use Rattle.script_meaning.specs.Trails.{Given, answers_of, exclusive_in, reads_of}
use Rattle.script_machine.specs.declared.machine.Pause.{Pause}
use Rattle.script_machine.specs.Machines.{rest}
use Rattle.promise_spec.specs.UnitAnswers.{got_in}
use Rattle.turn_rules.specs.Links.{HasTrail, IsAwaiting, HoldsLocks}
use Rattle.worker_rules.specs.UnitOwnership.{leaves_unit}
use Rattle.txn_agent.specs.declared.work.Carried.{Carried}
use Rattle.txn_agent.specs.declared.work.Work.{Work}
use Rattle.txn_agent.specs.declared.work.Doing.{Doing}
use Rattle.txn_agent.specs.declared.work.Doing.TheVariants.{Asks, Awaits, Frees, Stopped}
use Rattle.txn_agent.specs.declared.agent.Agent.{Agent}
use Rattle.txn_agent.specs.MachineState.{IsAtWork, IsReady, found_by, source_of}

-- The unit is in the core as the agent has it: its call, where it came from, its reads with their sources, its locks. A
-- plain run is of a call that makes no transaction.
pub record IsLinked (types : ProgramTree) (r : Run) (c : Carried) (work : Work) (trail : List Given) : Type 0 where
  pub above : 0 < r.base
  pub call : (ends r).units.call c.unit ≡ work.call
  pub came : (ends r).units.origin c.unit ≡ c.origin
  pub kind : (ends r).units.plain c.unit ≡ c.plain
  pub plainly : c.plain ≡ true → IsTransaction types work.call → ⊥
  pub found : map found_by ((ends r).units.reads c.unit) ≡ reads_of trail
  pub sources : map source_of ((ends r).units.reads c.unit) ≡ work.sources
  pub locks : (g : GrainId) → holds_lock c.unit ((ends r).cells.holds g) ≡ any (same_grain g) (grains_with_states (reads_of trail))
  pub alone : (g : GrainId) → holds_alone (ends r) c.unit g ≡ any (same_grain g) (exclusive_in trail)

-- The unit runs, and its machine was given all that the unit was.
pub record IsPaused (types : ProgramTree) (r : Run) (c : Carried) (work : Work) (trail : List Given) : Type 0 where
  pub linked : IsLinked types r c work trail
  pub given : HasTrail r c.unit trail

-- The unit runs, and its machine was given all but the outcome of the unit's last child.
pub record IsWaiting (types : ProgramTree) (r : Run) (c : Carried) (work : Work) (trail : List Given) (child : UnitNo) (call : Call) (depth : ℕ) : Type 0 where
  pub linked : IsLinked types r c work trail
  pub awaits : IsAwaiting r c.unit child call depth trail

-- The unit is over, and has these locks.
pub record IsOver (r : Run) (c : Carried) (held : List GrainId) : Type 0 where
  pub above : 0 < r.base
  pub over : is_over ((ends r).units.phase c.unit) ≡ true
  pub locks : HoldsLocks r c.unit held

-- The unit runs, but there is a doubt, or the run is to stop.
pub record IsBarred (r : Run) (c : Carried) : Type 0 where
  pub above : 0 < r.base
  pub running : (ends r).units.phase c.unit ≡ Running
  pub stopped : IsGoing (ends r) → ⊥

-- The unit has just begun.
pub record IsNew (types : ProgramTree) (r : Run) (c : Carried) (call : Call) : Type 0 where
  pub above : 0 < r.base
  pub running : (ends r).units.phase c.unit ≡ Running
  pub called : (ends r).units.call c.unit ≡ call
  pub came : (ends r).units.origin c.unit ≡ c.origin
  pub kind : (ends r).units.plain c.unit ≡ c.plain
  pub plainly : c.plain ≡ true → IsTransaction types call → ⊥
  pub got : got_in r c.unit ≡ []
  pub reads : (ends r).units.reads c.unit ≡ []
  pub locks : (g : GrainId) → holds_lock c.unit ((ends r).cells.holds g) ≡ false

-- this holds of the core's run by now, if nobody else made an event of the unit
abbrev pub IfOwn : Carried → Sight → (Run → Type 0) → Type 0
IfOwn c s P = IfAlone (leaves_unit c.unit) s P

-- What is known where the script asks for what the pause says.
pub record KnowsPaused (types : ProgramTree) (s : Sight) (c : Carried) (work : Work) (pause : Pause) : Type 0 where
  pub trail : List Given
  pub at_work : IsAtWork types c work trail (length (answers_of trail))
  pub ready : IsReady types work pause
  pub linked : IfOwn c s (λ r. IsPaused types r c work trail)

-- What is known where the script waits for the unit's child.
pub record KnowsWaiting (types : ProgramTree) (s : Sight) (c : Carried) (work : Work) (child : UnitNo) : Type 0 where
  pub trail : List Given
  pub call : Call
  pub depth : ℕ
  pub at_work : IsAtWork types c work trail (length (answers_of trail) + 1)
  pub asks_for : asks (rest types work.machine) ≡ WantUnit call depth
  pub linked : IfOwn c s (λ r. IsWaiting types r c work trail child call depth)

-- what is known, by what the unit does
abbrev pub KnowsDoing : ProgramTree → Sight → Carried → Doing → Type 0
KnowsDoing types s c (Asks work pause) = KnowsPaused types s c work pause
KnowsDoing types s c (Awaits work child) = KnowsWaiting types s c work child
KnowsDoing types s c (Frees held) = IfOwn c s (λ r. IsOver r c held)
KnowsDoing types s c Stopped = IfOwn c s (λ r. IsBarred r c)

-- what an agent knows of its unit
abbrev pub Knows : ProgramTree → Sight → Agent → Type 0
Knows types s agent = KnowsDoing types s agent.carried agent.doing
