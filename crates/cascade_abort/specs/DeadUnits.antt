-- Who is dead while a batch is decided.
use Rattle.std.specs.Prelude.{List, Bool, ◌&&◌, ◌||◌, not, zip}
use Rattle.std.specs.List.{list_any as any}
use Rattle.cell_model.specs.declared.outcomes.Prepared.{Prepared}
use Rattle.cell_model.specs.declared.outcomes.Decision.{Decision}
use Rattle.cell_model.specs.Units.{UnitNo, same_unit}
use Rattle.cell_model.specs.Decisions.{is_commit}

-- the unit is this one, which can't commit
abbrev pub has_fallen : UnitNo → Prepared × Decision → Bool
has_fallen unit decided = same_unit unit decided.0.unit && not (is_commit decided.1)

-- the dead, and those units of a batch that can't commit by these decisions
abbrev pub dead_by : (UnitNo → Bool) → List Prepared → List Decision → UnitNo → Bool
dead_by dead batch decisions unit = any (has_fallen unit) (zip batch decisions) || dead unit
