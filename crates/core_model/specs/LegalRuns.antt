-- The runs that the laws speak of.
use Rattle.std.specs.Prelude.{ℕ, ◌<◌, List, Bool, Option}
use Rattle.core_model.specs.CoreState.{GrainId, Value, Effect, CoreState}
use Rattle.core_model.specs.Events.{CoreEvent, run, start}
use Rattle.core_model.specs.SerialOrder.{AllPlay, AllLoadsTrue}

-- a run from the first state: the first unit's number, the program's types, how many grains stay in memory, their
-- states, and the events
pub record Run : Type 0 where
  pub base : ℕ
  pub kinds : ℕ
  pub capacity : Option ℕ
  pub opening : GrainId → List Value
  pub events : List CoreEvent

-- its first state
abbrev pub begins : Run → CoreState
begins r = start r.base r.kinds r.capacity r.opening

-- its last state
abbrev pub ends : Run → CoreState
ends r = run (begins r) r.events

-- units are numbered from 1 or later, each effect is a play, and each grain that is loaded has its last committed version
pub record IsLegal (plays : Effect → Bool) (r : Run) : Type 0 where
  pub above : 0 < r.base
  pub effects : AllPlay plays r.events
  pub loads : AllLoadsTrue r.opening (begins r) r.events
