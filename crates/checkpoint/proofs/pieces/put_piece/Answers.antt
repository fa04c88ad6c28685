use Rattle.std.proofs.Common.{◌≡◌, ℕ, List, subst, rules}
use Rattle.gate_block.specs.Blocks.{block_at}
use Rattle.commit_log.specs.Checkpoints.{flag_of}
use Rattle.checkpoint.specs.Copies.{writes_named}
use Rattle.checkpoint.specs.ManagerBytes.{HasWritten}
use Rattle.checkpoint.specs.Pieces.{spelled_with}
use Rattle.checkpoint.proofs.ManagerBytes.{ok_then}
use Rattle.checkpoint.proofs.pieces.put_piece.Goals as goal

pub returns-clause-written : goal.returns-clause-written
returns-clause-written g c =
    let same : c.as_slice.result.now ≡ block_at (spelled_with c.args.head (flag_of c.args.more) (writes_named c.args.copies.now)) = search rules in
    ok_then _ _ c.put.result
    (λ written told. subst (λ (b : List ℕ). HasWritten c.args.slot c.args.at b (g.H.Host.world c.args.host.now) (g.H.Host.world c.put.new.host)) same (written told)) c.put.ensures.written
