use Rattle.std.proofs.Common.{◌≡◌, drop, filter}
use Rattle.cell_model.specs.Units.{oldest}
use Rattle.cell_model.specs.Sources.{is_among}
use Rattle.cell_model.specs.Units.{joined}
use Rattle.cascade_abort.specs.DeadUnits.{dead_by}
use Rattle.cascade_abort.proofs.batch.oldest_dead.Given as goal

abbrev pub invariant-loop-unit : goal.invariant-loop-unit
invariant-loop-unit l =
    joined l.found (oldest (filter (dead_by (is_among l.aborted) l.before l.decisions) (drop l.unit-index l.units)))
    ≡ oldest (filter (dead_by (is_among l.aborted) l.before l.decisions) l.units)
