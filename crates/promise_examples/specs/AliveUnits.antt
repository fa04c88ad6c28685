-- Units that nothing aborts.
use Rattle.core_model.specs.declared.events.CoreEvent.{CoreEvent}
use Rattle.core_model.specs.CoreState.{UnitNo, Batch, CoreState}
use Rattle.core_model.specs.Causes.{decided_state}
use Rattle.core_model.specs.DeadUnits.{IsDead}

-- the unit isn't dead in a state, and isn't where the event decides the open batch
pub record IsAlive (w : CoreState) (e : CoreEvent) (u : UnitNo) : Type 0 where
  pub before : IsDead w u → ⊥
  pub decided : (b : Batch) → IsDead (decided_state w e b) u → ⊥
