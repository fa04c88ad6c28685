-- The manager file of the slot that isn't live, as `compact` writes it behind the closed header gate.
use Rattle.std.specs.Prelude.{◌≡◌, ℕ, ◌+◌, ◌≤◌, Bool, IsTrue, List, [], ◌∷◌, ◌++◌, map, length}
use Rattle.std.specs.List.{flat_map, AllByRecursion}
use Rattle.host_trait.specs.Disk.{FileState, overlaid, settled}
use Rattle.host_trait.specs.World.{World}
use Rattle.field_codec.specs.declared.formats.Format.TheVariants.{Two}
use Rattle.gate_block.specs.Blocks.{block_at}
use Rattle.gate_block.specs.Log.{open_blocks}
use Rattle.commit_log.specs.declared.records.CheckpointHead.{CheckpointHead}
use Rattle.commit_log.specs.declared.records.Named.{Named}
use Rattle.commit_log.specs.declared.records.Written.{Written}
use Rattle.commit_log.specs.Checkpoints.{flag_of, spelling_of_piece}
use Rattle.commit_log.specs.Spelling.{WriteFits}
use Rattle.checkpoint.specs.ManagerBytes.{behind_gate, HasWritten}
use Rattle.checkpoint.specs.Copies.{writes_named}

-- the body of a piece with this head, in format 2
abbrev pub spelled_with : CheckpointHead → ℕ → List Written → List ℕ
spelled_with head flag writes = spelling_of_piece Two flag head.count head.next_unit.0 head.session writes

-- the block of a piece that names these copies, behind its open gate
abbrev pub block_of_piece : Bool → CheckpointHead → List Named → List ℕ
block_of_piece more head copies = block_at (spelled_with head (flag_of more) (writes_named copies))

-- the bodies of pieces that others follow
abbrev pub front_bodies : CheckpointHead → List (List Written) → List (List ℕ)
front_bodies head front = map (spelled_with head 1) front

-- the bodies of all pieces
abbrev pub piece_bodies : CheckpointHead → List (List Written) → List Written → List (List ℕ)
piece_bodies head front last = front_bodies head front ++ spelled_with head 0 last ∷ []

-- These writes are cut into pieces, of which each has at most 65,536.
pub record AreCutInPieces (writes : List Written) (front : List (List Written)) (last : List Written) : Type 0 where
  pub all : writes ≡ flat_map (λ piece. piece) front ++ last
  pub sizes : AllByRecursion (λ (piece : List Written). length piece ≤ 65536) front
  pub size : length last ≤ 65536
  pub fits : AllByRecursion WriteFits writes

-- Of these copies all but the rest were named in pieces that others follow, whose blocks were written from this offset on up to
-- the end.
pub record HasFront (tells : Bool) (slot at : ℕ) (head : CheckpointHead) (copies rest : List Named) (end : ℕ) (old new : World) : Type 0 where
  pub front : List (List Written)
  pub all : writes_named copies ≡ flat_map (λ piece. piece) front ++ writes_named rest
  pub sizes : AllByRecursion (λ (piece : List Written). length piece ≤ 65536) front
  pub fits : AllByRecursion WriteFits (flat_map (λ piece. piece) front)
  pub ends : end ≡ at + length (open_blocks (front_bodies head front))
  pub written : IsTrue tells → HasWritten slot at (open_blocks (front_bodies head front)) old new

-- The header behind its gate, the open blocks of a checkpoint of these writes and a closed gate stand in the file, in which nothing
-- is pending.
pub record HasPieces (generation : ℕ) (head : CheckpointHead) (writes : List Written) (old new : FileState) : Type 0 where
  pub front : List (List Written)
  pub last : List Written
  pub cut : AreCutInPieces writes front last
  pub file : new ≡ settled (overlaid old.seen 1 (behind_gate generation 1 ++ (open_blocks (piece_bodies head front last) ++ 0 ∷ [])))
