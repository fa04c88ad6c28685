use Rattle.std.proofs.Common.{rules, ◌≡◌, ◌+◌, ℕ, List, [], ◌∷◌, ◌++◌, length, take, drop, ◌∙◌}
use Rattle.std.specs.Int.{w32, w64, to_le_bytes}
use Rattle.checkpoint.specs.MigratedBlocks.{session_place}
use Rattle.checkpoint.proofs.MigratedBlocks.{block_is}
use Rattle.checkpoint.proofs.migrated_blocks.block_with_session.Goals as goal

pub returns : goal.returns
returns c =
    let body : List ℕ = c.args.body.now in
    let place : ℕ = session_place c.args.is_piece (length body) in
    let is : c.extend_from_slice-4.new.self.items ≡ ((((1 ∷ []) ++ to_le_bytes w32 (length body + 8)) ++ take place body) ++ to_le_bytes w64 1) ++ drop place body = search rules in
    is ∙ block_is c.args.is_piece body
