use Rattle.std.proofs.Common.{arith}
use Rattle.commit_log.specs.declared.records.CheckpointPiece.{CheckpointPiece}
use Rattle.commit_log.specs.Checkpoints.{IsPieceBody}
use Rattle.commit_log.proofs.Decoding.{if_ok}
use Rattle.commit_log.proofs.CheckpointPieces.{found_piece, only_piece, within_piece}
use Rattle.commit_log.proofs.pieces.get_piece.Goals as goal

pub returns-clause-found : goal.returns-clause-found
returns-clause-found c = if_ok (λ (p : CheckpointPiece). IsPieceBody c.args.format c.args.shape.now c.args.first c.args.last p c.args.body.now) c.get_whole.result (found_piece c.args.format c.args.shape.now c.args.first c.args.last c.args.body.now c.get_whole.result c.get_whole.ensures (λ i. omega (arith, c.type_inv.body i)))

pub returns-clause-only : goal.returns-clause-only
returns-clause-only c = only_piece c.args.format c.args.shape.now c.args.first c.args.last c.args.body.now c.get_whole.result c.get_whole.ensures

pub returns-clause-within : goal.returns-clause-within
returns-clause-within c = within_piece c.args.format c.args.shape.now c.args.first c.args.last c.args.body.now c.get_whole.result c.get_whole.ensures (λ i. omega (arith, c.type_inv.body i))
