-- Who wrote a grain last.
use Rattle.std.specs.Prelude.{List, Option, None, Some}
use Rattle.core_model.specs.CoreState.{UnitNo, GrainId, Value, CoreState}
use Rattle.core_model.specs.SerialOrder.{IsUnwritten, IsLastWriter}

-- the state is what the grain's last committed writer wrote there; none is there where no committed unit wrote it
abbrev pub IsLastOf : CoreState → GrainId → Option (List Value) → Type 0
IsLastOf w g None = IsUnwritten w g
IsLastOf w g (Some state) = (u : UnitNo) × IsLastWriter w g u state
