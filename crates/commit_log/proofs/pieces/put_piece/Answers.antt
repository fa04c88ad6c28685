use Rattle.std.proofs.Common.{◌≡◌, ◌++◌, ◌∷◌, [], ℕ, ap, ◌∙◌, length}
use Rattle.std.specs.Int.{w32, w64, to_le_bytes}
use Rattle.std.specs.List.{flat_map}
use Rattle.field_codec.proofs.ByteGrowth.{begins_on, begins_with}
use Rattle.commit_log.specs.Checkpoints.{flag_of}
use Rattle.commit_log.specs.Spelling.{spelling_of_write}
use Rattle.commit_log.proofs.CheckpointPieces.{six_parts}
use Rattle.commit_log.proofs.pieces.put_piece.Goals as goal

pub returns-clause-ok : goal.returns-clause-ok
returns-clause-ok c =
    let flags : c.push.new.self.items ≡ c.args.into.now.items ++ flag_of c.args.more ∷ [] = c.in_ok-push.ensures.items ∙ ap (λ (n : ℕ). c.args.into.now.items ++ n ∷ []) c.flag_of.ensures in
    six_parts c.args.into.now.items c.push.new.self.items c.put_u64.new.into.items c.put_u64-2.new.into.items c.put_u64-3.new.into.items c.put_u32.new.into.items c.append_all.new.into.items
    (flag_of c.args.more ∷ []) (to_le_bytes w64 c.args.head.count) (to_le_bytes w64 c.args.head.next_unit.0) (to_le_bytes w64 c.args.head.session) (to_le_bytes w32 (length c.args.writes.now)) (flat_map spelling_of_write c.args.writes.now)
    flags c.in_ok-put_u64.ensures c.in_ok-put_u64-2.ensures c.in_ok-put_u64-3.ensures c.in_ok-put_u32.ensures c.in_ok-append_all.ensures.ok

pub returns-in_err-put_u64-clause-begins : goal.returns-in_err-put_u64-clause-begins
returns-in_err-put_u64-clause-begins c = begins_with _ _ _ (c.in_err-put_u64.ensures ∙ c.in_ok-push.ensures.items)

pub returns-in_err-put_u64-2-clause-begins : goal.returns-in_err-put_u64-2-clause-begins
returns-in_err-put_u64-2-clause-begins c = begins_on _ _ _ _ c.in_ok-push.ensures.items (begins_with _ _ _ (c.in_err-put_u64-2.ensures ∙ c.in_ok-put_u64.ensures))

pub returns-in_err-put_u64-3-clause-begins : goal.returns-in_err-put_u64-3-clause-begins
returns-in_err-put_u64-3-clause-begins c =
    begins_on _ _ _ _ c.in_ok-push.ensures.items
    (begins_on _ _ _ _ c.in_ok-put_u64.ensures (begins_with _ _ _ (c.in_err-put_u64-3.ensures ∙ c.in_ok-put_u64-2.ensures)))

pub returns-in_err-put_u32-clause-begins : goal.returns-in_err-put_u32-clause-begins
returns-in_err-put_u32-clause-begins c =
    begins_on _ _ _ _ c.in_ok-push.ensures.items
    (begins_on _ _ _ _ c.in_ok-put_u64.ensures (begins_on _ _ _ _ c.in_ok-put_u64-2.ensures (begins_with _ _ _ (c.in_err-put_u32.ensures ∙ c.in_ok-put_u64-3.ensures))))

pub returns-in_err-append_all-clause-begins : goal.returns-in_err-append_all-clause-begins
returns-in_err-append_all-clause-begins c =
    begins_on _ _ _ _ c.in_ok-push.ensures.items
    (begins_on _ _ _ _ c.in_ok-put_u64.ensures (begins_on _ _ _ _ c.in_ok-put_u64-2.ensures (begins_on _ _ _ _ c.in_ok-put_u64-3.ensures (begins_on _ _ _ _ c.in_ok-put_u32.ensures c.in_err-append_all.ensures.begins))))

pub returns-clause-begins : goal.returns-clause-begins
returns-clause-begins c =
    begins_on _ _ _ _ c.in_ok-push.ensures.items
    (begins_on _ _ _ _ c.in_ok-put_u64.ensures (begins_on _ _ _ _ c.in_ok-put_u64-2.ensures (begins_on _ _ _ _ c.in_ok-put_u64-3.ensures (begins_on _ _ _ _ c.in_ok-put_u32.ensures c.in_ok-append_all.ensures.begins))))
