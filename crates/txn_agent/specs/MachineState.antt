-- What an agent knows of its script's machine, whatever others do.
use Rattle.std.specs.Prelude.{◌≡◌, ◌++◌, ℕ, List, length, map, true}
use Rattle.std.specs.List.{All, Contains}
use Rattle.core_model.specs.CoreState.{UnitNo, Call}
use Rattle.core_model.specs.declared.effects.Effect.{Effect}
use Rattle.core_model.specs.declared.effects.Read.{Read}
use Rattle.script_tree.specs.Programs.{ProgramTree}
use Rattle.script_meaning.specs.Play.{GrainState, Over, asks, grains_with_states}
use Rattle.script_meaning.specs.Trails.{Given, answers_of, exclusive_in, reads_of}
use Rattle.script_machine.specs.declared.machine.Input.{Input}
use Rattle.script_machine.specs.declared.machine.Machine.{Machine}
use Rattle.script_machine.specs.declared.machine.Pause.{Pause}
use Rattle.script_machine.specs.Machines.{FollowsTrail, HasRoomForParts, given_by, has_begun, is_done, is_over, pause_for, rest}
use Rattle.base_types.specs.Origins.{depth_of}
use Rattle.promise_spec.specs.UnitRule.{IsPlayOf}
use Rattle.txn_agent.specs.declared.work.Carried.{Carried}
use Rattle.txn_agent.specs.declared.work.Work.{Work}

-- The machine runs the unit's call, and was given this; what it was granted and has begun is counted along.
pub record IsAtWork (types : ProgramTree) (c : Carried) (work : Work) (trail : List Given) (begun : ℕ) : Type 0 where
  pub follows : FollowsTrail types work.call (depth_of c.origin) work.machine trail
  pub started : has_begun work.machine ≡ true
  pub held : work.held ≡ grains_with_states (reads_of trail)
  pub sources : length work.sources ≡ length (reads_of trail)
  pub kids : work.kids ≡ begun

-- The machine asks for what the pause says.
pub record IsReady (types : ProgramTree) (work : Work) (pause : Pause) : Type 0 where
  pub asks_for : pause ≡ pause_for (asks (rest types work.machine))
  pub over : is_over work.machine ≡ is_done pause
  pub room : HasRoomForParts work.machine

-- What a machine is after it was given more, and its pause.
pub record IsResumed (types : ProgramTree) (old new : Machine) (one : Input) (pause : Pause) : Type 0 where
  pub asks_for : pause ≡ pause_for (asks (rest types new))
  pub follows : (call : Call) (depth : ℕ) (trail : List Given) → FollowsTrail types call depth old trail → FollowsTrail types call depth new (trail ++ given_by (rest types old) one)
  pub begun : has_begun new ≡ true
  pub over : is_over new ≡ is_done pause
  pub room : HasRoomForParts new

-- The work's machine was given what it asked for and is at its next pause, and nothing else of the work has changed.
pub record HasResumed (types : ProgramTree) (old new : Work) (one : Input) (pause : Pause) : Type 0 where
  pub call : new.call ≡ old.call
  pub held : new.held ≡ old.held
  pub sources : new.sources ≡ old.sources
  pub kids : new.kids ≡ old.kids
  pub machine : IsResumed types old.machine new.machine one pause

-- what was found, and by whom it was written
abbrev pub found_by : Read → GrainState
found_by read = (read.grain, read.state)

-- the source of a read
abbrev pub source_of : Read → UnitNo
source_of read = read.source

-- The effect is what the unit leaves: the whole play's over what the machine was given, each read with the source that came
-- with it. What it writes it has locked exclusive.
pub record IsEffectOf (types : ProgramTree) (c : Carried) (work : Work) (trail : List Given) (effect : Effect) : Type 0 where
  pub unit : effect.unit ≡ c.unit
  pub origin : effect.origin ≡ c.origin
  pub call : effect.call ≡ work.call
  pub result : asks (rest types work.machine) ≡ Over effect.result
  pub play : IsPlayOf types effect
  pub answers : effect.answers ≡ answers_of trail
  pub found : map found_by effect.reads ≡ reads_of trail
  pub sources : map source_of effect.reads ≡ work.sources
  pub locked : All (λ one. Contains (exclusive_in trail) one.0) effect.writes
