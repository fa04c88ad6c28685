-- What a unit gives back with a lock.
use Rattle.std.specs.Prelude.{List, Option, None}
use Rattle.core_model.specs.CoreState.{Value}
use Rattle.core_model.specs.declared.phases.Phase.{Phase}
use Rattle.core_model.specs.declared.phases.Phase.TheVariants.{Finished}

-- what was kept of its writes, where it has finished
abbrev pub if_finished : Phase → Option (List Value) → Option (List Value)
if_finished Finished kept = kept
if_finished _ kept = None
