-- The last version of a grain by the records of a run, and what the grain is brought into memory with.
use Rattle.std.specs.Prelude.{List, [], ◌∷◌, Option, Some, None, unwrap_or}
use Rattle.base_types.specs.declared.stores.Version.{Version}
use Rattle.core_model.specs.CoreState.{UnitNo, GrainId, nobody, Value}
use Rattle.core_model.specs.Tests.{state_written}
use Rattle.promise_spec.specs.Records.{Commit, States, written}

-- a unit's version, where it wrote one, or else the one before
abbrev pub version_after : UnitNo → Option (List Value) → Option Version → Option Version
version_after u None before = before
version_after u (Some state) before = Some (record { unit = u; state = state })

-- the last version of the grain by these records, oldest first, or else the one before them
abbrev pub version_behind : GrainId → List Commit → Option Version → Option Version
version_behind g [] before = before
version_behind g (c ∷ commits) before = version_behind g commits (version_after c.logged.unit (state_written g (written c)) before)

-- the last version of the grain by the records of the run's own units: none where none of them wrote it
abbrev pub last_own : GrainId → List Commit → Option Version
last_own g commits = version_behind g commits None

-- what a true load of the grain brings: that version, or else nobody's, with the state that the grain had where the run began
abbrev pub true_load : States → GrainId → List Commit → Version
true_load began g commits = unwrap_or (last_own g commits) (record { unit = nobody; state = began g })
