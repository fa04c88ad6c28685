-- The bodies of a log of format 1 say the same in format 2, in session 1, and their lengths fit their fields.
use Rattle.std.proofs.Common.{◌≡◌, ℕ, ◌*◌, ◌^◌, ◌<◌, ◌≤◌, List, [], ◌∷◌, ◌++◌, length, map, refl, sym, ap, subst, ◌∙◌, arith, length-append}
use Rattle.std.specs.Int.{w64, to_le_bytes}
use Rattle.std.specs.Prelude.{⊤}
use Rattle.std.specs.List.{flat_map, AllByRecursion}
use Rattle.std.proofs.lemmas.List.{length-map}
use Rattle.host_trait.specs.World.{Image}
use Rattle.field_codec.specs.declared.formats.Format.TheVariants.{One, Two}
use Rattle.field_codec.proofs.Lengths.{flat_short}
use Rattle.gate_block.specs.Log.{AreSmall}
use Rattle.commit_log.specs.declared.records.Written.{Written}
use Rattle.commit_log.specs.declared.contents.Body.TheVariants as body
use Rattle.commit_log.specs.Contents.{spelling_of_content}
use Rattle.commit_log.specs.Checkpoints.{spelling_of_piece}
use Rattle.commit_log.specs.Spelling.{spelling_of_write, RecordFits}
use Rattle.commit_log.proofs.Lengths.{record_grows, body_short}
use Rattle.promise_spec.specs.Programs.{Program}
use Rattle.promise_spec.specs.Records.{Commit}
use Rattle.promise_spec.specs.Entries.{LogEntry, Recorded}
use Rattle.promise_spec.specs.Blocks.{Block, Records, Upgrade, entries_in, body_of, BlockFits, AreKept, Saved, Checkpoint, spelled_piece, pieces_of, Beginning, Fresh, From, begin_byte, bodies_before, BeginsWhole}
use Rattle.promise_laws.specs.MigratedFiles.{migrated_body, migrated_piece, migrated_pieces, migrated_bodies}

-- ---- what they say

-- a block's
block_moves : (b : Block) → BlockFits One b → migrated_body (body_of One b) ≡ body_of Two b
block_moves (Records session batch) fits = ap (λ (s : ℕ). to_le_bytes w64 s ++ spelling_of_content (body.Records (map (λ (c : Commit). c.logged) batch))) (sym fits.1)
block_moves (Upgrade session p) fits = ap (λ (s : ℕ). to_le_bytes w64 s ++ spelling_of_content (body.Upgrade p.text)) (sym fits)

blocks_move : (blocks : List Block) → AllByRecursion (BlockFits One) blocks → map migrated_body (map (body_of One) blocks) ≡ map (body_of Two) blocks
blocks_move [] fit = refl
blocks_move (b ∷ blocks) fit = (let one = block_moves b fit.0 in let more = blocks_move blocks fit.1 in λ i. one i ∷ more i)

-- a piece's
piece_moves : (ck : Checkpoint) (flag : ℕ) (piece : List Saved) → ck.session ≡ 1 → migrated_piece (spelled_piece One ck flag piece) ≡ spelled_piece Two ck flag piece
piece_moves ck flag piece is = ap (λ (s : ℕ). spelling_of_piece Two flag ck.count ck.next s (map (λ (x : Saved). x.write) piece)) (sym is)

-- those of pieces and blocks
pieces_move : (ck : Checkpoint) (front : List (List Saved)) (last : List Saved) (rest : List (List ℕ)) → ck.session ≡ 1
    → migrated_pieces ((map (spelled_piece One ck 1) front ++ spelled_piece One ck 0 last ∷ []) ++ rest) ≡ (map (spelled_piece Two ck 1) front ++ spelled_piece Two ck 0 last ∷ []) ++ map migrated_body rest
pieces_move ck [] last rest is = ap (λ (l : List ℕ). l ∷ map migrated_body rest) (piece_moves ck 0 last is)
pieces_move ck (piece ∷ front) last rest is = (let one = piece_moves ck 1 piece is in let more = pieces_move ck front last rest is in λ i. one i ∷ more i)

-- a checkpoint counts as one of session 1
abbrev pub BeginsFirst : Beginning → Type 0
BeginsFirst Fresh = ⊤
BeginsFirst (From ck) = ck.session ≡ 1

-- those of a log
pub bodies_move : (b : Beginning) (blocks : List Block) → BeginsFirst b → AllByRecursion (BlockFits One) blocks
    → migrated_bodies (begin_byte b) (bodies_before One b ++ map (body_of One) blocks) ≡ bodies_before Two b ++ map (body_of Two) blocks
bodies_move Fresh blocks is fit = blocks_move blocks fit
bodies_move (From ck) blocks is fit =
    pieces_move ck ck.front ck.last (map (body_of One) blocks) is ∙ ap (λ (l : List (List ℕ)). pieces_of Two ck ++ l) (blocks_move blocks fit)

-- ---- how long they are

any_write : (ws : List Written) → AllByRecursion (λ w. Unit {0}) ws
any_write [] = tt
any_write (w ∷ ws) = (tt, any_write ws)

-- a piece of at most 65,536 writes
piece_small : (ck : Checkpoint) (flag : ℕ) (piece : List Saved) → length piece ≤ 65536 → length (spelled_piece Two ck flag piece) < 2 ^ 32
piece_small ck flag piece size =
    let ws : List Written = map (λ (s : Saved). s.write) piece in
    let many : length ws ≡ length piece = length-map piece (λ (s : Saved). s.write) in
    let all : length (flat_map spelling_of_write ws) ≤ 18 * length ws = flat_short spelling_of_write (λ w. Unit {0}) 18 (λ w u. omega arith) ws (any_write ws) in
    omega (arith, all, many, size)

pieces_small : (ck : Checkpoint) (front : List (List Saved)) (last : List Saved) (rest : List (List ℕ)) → AllByRecursion (λ (piece : List Saved). length piece ≤ 65536) (front ++ last ∷ []) → AreSmall rest
    → AreSmall ((map (spelled_piece Two ck 1) front ++ spelled_piece Two ck 0 last ∷ []) ++ rest)
pieces_small ck [] last rest sizes small = (piece_small ck 0 last sizes.0, small)
pieces_small ck (piece ∷ front) last rest sizes small = (piece_small ck 1 piece sizes.0, pieces_small ck front last rest sizes.1 small)

module _ (live : ℕ) (image : Image) where
  -- the records of a batch that is kept, and the entries behind it
  batch_kept : (p : Program) (batch : List Commit) (rest : List LogEntry) → AreKept One live image p (map Recorded batch ++ rest)
      → AllByRecursion (RecordFits Two) (map (λ (c : Commit). c.logged) batch) × AreKept One live image p rest
  batch_kept p [] rest kept = (tt, kept)
  batch_kept p (c ∷ batch) rest kept = (let more = batch_kept p batch rest kept.1 in ((record_grows c.logged kept.0.fits.fits, more.0), more.1))

  blocks_small : (p : Program) (blocks : List Block) → AllByRecursion (BlockFits One) blocks → AreKept One live image p (flat_map entries_in blocks) → AreSmall (map (body_of Two) blocks)
  blocks_small p [] fit kept = tt
  blocks_small p (Records session batch ∷ blocks) fit kept =
      let here = batch_kept p batch (flat_map entries_in blocks) kept in
      let few : length (map (λ (c : Commit). c.logged) batch) ≤ 64 = subst (λ (n : ℕ). n ≤ 64) (sym (length-map batch (λ (c : Commit). c.logged))) fit.0.0 in
      (body_short Two session (map (λ (c : Commit). c.logged) batch) (few, here.0), blocks_small p blocks fit.1 here.1)
  blocks_small p (Upgrade session q ∷ blocks) fit kept =
      let size : length q.text ≤ 262144 = kept.0.0.small in
      (omega (arith, size, length-append (to_le_bytes w64 session) (spelling_of_content (body.Upgrade q.text))), blocks_small q blocks fit.1 kept.1)

  -- all of a log's
  pub bodies_small : (p : Program) (b : Beginning) (blocks : List Block) → BeginsWhole One live p image b → AllByRecursion (BlockFits One) blocks → AreKept One live image p (flat_map entries_in blocks)
      → AreSmall (bodies_before Two b ++ map (body_of Two) blocks)
  bodies_small p Fresh blocks whole fit kept = blocks_small p blocks fit kept
  bodies_small p (From ck) blocks whole fit kept = pieces_small ck ck.front ck.last (map (body_of Two) blocks) whole.sizes (blocks_small p blocks fit kept)
