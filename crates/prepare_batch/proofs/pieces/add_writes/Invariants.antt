use Rattle.std.proofs.Common.{◌≡◌, ◌++◌, take, map}
use Rattle.prepare_batch.proofs.pieces.add_writes.Given as goal
use Rattle.core_model.specs.CoreState.{Write}

abbrev pub invariant-loop-write : goal.invariant-loop-write
invariant-loop-write l = l.pieces.items ≡ l.fn.pieces.items ++ map (λ (x : Write). record { grain = x.0; version = record { unit = l.effect.unit; state = x.1 } }) (take l.write-index l.effect.writes)
