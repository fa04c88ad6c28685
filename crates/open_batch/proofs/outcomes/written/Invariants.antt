use Rattle.std.proofs.Common.{◌≡◌, drop}
use Rattle.core_model.specs.Tests.{state_written}
use Rattle.open_batch.proofs.outcomes.written.Given as goal

abbrev pub invariant-loop-write : goal.invariant-loop-write
invariant-loop-write l = state_written l.grain (drop l.write-index l.writes) ≡ state_written l.grain l.writes
