use Rattle.std.proofs.Common.{◌≤◌}
use Rattle.log_reading.proofs.pieces.run_of.Given as goal

abbrev pub invariant-loop-one : goal.invariant-loop-one
invariant-loop-one l = l.size ≤ 65536
