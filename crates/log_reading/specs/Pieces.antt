-- A part of a grain's file that is read at once.
use Rattle.std.specs.Prelude.{◌≡◌, ℕ, ◌+◌, ◌-◌, ◌==◌, ◌<◌, ◌≤◌, ◌^◌, nat_le, Bool, ◌&&◌, IsTrue, List, length, take, drop}
use Rattle.base_types.specs.declared.calls.GrainId.{GrainId}
use Rattle.host_trait.specs.Files.{same_grain}
use Rattle.host_trait.specs.World.{Image}
use Rattle.host_trait.specs.declared.channels.FileId.TheVariants.{Grain}
use Rattle.commit_log.specs.declared.records.Named.{Named}
use Rattle.log_reading.specs.declared.pieces.Piece.{Piece}

-- these bytes stand in a file from an offset on
pub record AreIn (file : List ℕ) (start : ℕ) (bytes : List ℕ) : Type 0 where
  pub within : length bytes ≤ length file - start
  pub same : bytes ≡ take (length bytes) (drop start file)

-- A piece ends below 2 to the 63, and where the files are told it stands in its grain's live one.
pub record IsPieceOf (tells : Bool) (live : ℕ) (image : Image) (piece : Piece) : Type 0 where
  pub low : piece.start + length piece.bytes.items < 2 ^ 63
  pub here : IsTrue tells → AreIn (image (Grain live piece.grain)) piece.start piece.bytes.items

-- the bytes of a piece at a named place, which lies in it
pub record IsTextIn (piece : Piece) (named : Named) (text : List ℕ) : Type 0 where
  pub grain : named.written.grain ≡ piece.grain
  pub behind : piece.start ≤ named.written.place.offset
  pub within : named.written.place.offset - piece.start + named.written.place.len ≤ length piece.bytes.items
  pub same : text ≡ take named.written.place.len (drop (named.written.place.offset - piece.start) piece.bytes.items)

-- whether a named version stands behind so many bytes that are read from an offset of this grain's file, and ends within 65,536
-- bytes of it
abbrev pub continues_piece : GrainId → ℕ → ℕ → Named → Bool
continues_piece grain start size named =
    same_grain named.written.grain grain && ((named.written.place.offset == start + size) && nat_le (size + named.written.place.len) 65536)
