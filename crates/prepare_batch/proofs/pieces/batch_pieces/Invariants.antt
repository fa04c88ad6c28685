use Rattle.std.proofs.Common.{◌≡◌, take}
use Rattle.prepare_batch.specs.Pieces.{batch_pieces}
use Rattle.prepare_batch.proofs.pieces.batch_pieces.Given as goal

abbrev pub invariant-loop-effect : goal.invariant-loop-effect
invariant-loop-effect l = l.pieces.items ≡ batch_pieces l.aborted (take l.effect-index l.batch)
