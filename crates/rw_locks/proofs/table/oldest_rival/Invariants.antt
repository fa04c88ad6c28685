use Rattle.std.proofs.Common.{◌≡◌, drop}
use Rattle.cell_model.specs.Units.{oldest}
use Rattle.cell_model.specs.Locks.{rivals}
use Rattle.cell_model.specs.Units.{joined}
use Rattle.rw_locks.proofs.table.oldest_rival.Given as goal

abbrev pub invariant-loop-hold : goal.invariant-loop-hold
invariant-loop-hold l =
    joined l.found (oldest (rivals l.unit l.mode (drop l.hold-index l.holds))) ≡ oldest (rivals l.unit l.mode l.holds)
