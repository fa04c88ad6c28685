use Rattle.std.proofs.Common.{◌≡◌, ◌+◌, ◌*◌, ◌++◌, ◌∷◌, [], ℕ, List, length, refl, ap, ◌∙◌}
use Rattle.field_codec.specs.declared.formats.Format.TheVariants.{Two}
use Rattle.commit_log.specs.Checkpoints.{flag_of}
use Rattle.commit_log.proofs.CheckpointPieces.{piece_length, piece_block}
use Rattle.commit_log.proofs.pieces.encode_piece.Goals as goal

pub returns-in_err-push-clause-size : goal.returns-in_err-push-clause-size
returns-in_err-push-clause-size c = piece_length Two (flag_of c.args.more) c.args.head.count c.args.head.next_unit.0 c.args.head.session c.args.writes.now

pub returns-in_err-put_u32-clause-size : goal.returns-in_err-put_u32-clause-size
returns-in_err-put_u32-clause-size c = piece_length Two (flag_of c.args.more) c.args.head.count c.args.head.next_unit.0 c.args.head.session c.args.writes.now

pub returns-in_err-put_piece-clause-size : goal.returns-in_err-put_piece-clause-size
returns-in_err-put_piece-clause-size c = piece_length Two (flag_of c.args.more) c.args.head.count c.args.head.next_unit.0 c.args.head.session c.args.writes.now

pub returns-clause-spelled : goal.returns-clause-spelled
returns-clause-spelled c =
    let begins : c.push.new.self.items ≡ 1 ∷ [] = c.in_ok-push.ensures.items ∙ ap (λ (l : List ℕ). l ++ 1 ∷ []) c.new-block.ensures.items in
    piece_block (flag_of c.args.more) c.args.head.count c.args.head.next_unit.0 c.args.head.session (29 + 18 * length c.args.writes.now) c.args.writes.now _ _ _ begins c.in_ok-put_u32.ensures refl (c.from_vec.ensures ∙ c.in_ok-put_piece.ensures.ok)

pub returns-clause-size : goal.returns-clause-size
returns-clause-size c = piece_length Two (flag_of c.args.more) c.args.head.count c.args.head.next_unit.0 c.args.head.session c.args.writes.now
