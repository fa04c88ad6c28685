-- The manager file of a silo of format 1 in format 2: each body says the same, in session 1.
use Rattle.std.specs.Prelude.{ℕ, ◌==◌, if◌then◌else◌, List, [], ◌∷◌, ◌++◌, map, take, drop, slice_index}
use Rattle.std.specs.Int.{w32, w64, to_le_bytes}
use Rattle.field_codec.specs.declared.formats.Format.TheVariants.{Two}
use Rattle.field_codec.specs.Formats.{magic_of}
use Rattle.gate_block.specs.Log.{bodies_of, open_blocks}

-- the body of records or of an upgrade: the session stands before what it says
abbrev pub migrated_body : List ℕ → List ℕ
migrated_body body = to_le_bytes w64 1 ++ body

-- the body of a piece of a checkpoint: the session stands behind its flag, its count and its next unit
abbrev pub migrated_piece : List ℕ → List ℕ
migrated_piece piece = take 17 piece ++ (to_le_bytes w64 1 ++ drop 17 piece)

-- the bodies of the pieces, up to the one that says that no other follows, and those behind them
abbrev pub migrated_pieces : List (List ℕ) → List (List ℕ)
migrated_pieces [] = []
migrated_pieces (piece ∷ bodies) = migrated_piece piece ∷ (if slice_index piece 0 == 1 then migrated_pieces bodies else map migrated_body bodies)

-- the bodies of a log, which begins with a checkpoint where this byte of its header is 1
abbrev pub migrated_bodies : ℕ → List (List ℕ) → List (List ℕ)
migrated_bodies begins bodies = if begins == 1 then migrated_pieces bodies else map migrated_body bodies

-- those of a manager file
abbrev pub migrated_in : List ℕ → List (List ℕ)
migrated_in file = migrated_bodies (slice_index file 13) (bodies_of file)

-- A manager file of format 2, once its header gate is open: this generation, what the other file says of the log's beginning, and its
-- bodies, migrated, up to a closed gate, whatever stands behind it.
abbrev pub migrated_file : ℕ → List ℕ → List ℕ → List ℕ
migrated_file generation file rest =
    1 ∷ (magic_of Two ++ (to_le_bytes w32 generation ++ (slice_index file 13 ∷ 0 ∷ (open_blocks (migrated_in file) ++ 0 ∷ rest))))
