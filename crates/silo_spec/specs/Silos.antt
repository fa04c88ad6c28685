-- Whether an image is a silo, and of which program. The magic is the eight bytes after the header gate: they name the format.
use Rattle.std.specs.Prelude.{◌≡◌, ◌⊎◌, ℕ, ◌+◌, ◌≤◌, Bool, ◌||◌, List, [], ◌∷◌, ◌++◌, length, take, drop, slice_index, bytes_eq}
use Rattle.std.specs.Int.{w32, to_le_bytes}
pub use Rattle.host_trait.specs.Files.{manager, program_file}
use Rattle.host_trait.specs.declared.channels.FileId.{FileId}
use Rattle.host_trait.specs.declared.channels.FileId.TheVariants.{Manager}
use Rattle.host_trait.specs.World.{Image}
use Rattle.field_codec.specs.declared.formats.Format.{Format}
use Rattle.field_codec.specs.declared.formats.Format.TheVariants.{One, Two}
use Rattle.field_codec.specs.Formats.{magic_of}
use Rattle.gate_block.specs.Log.{bodies_of, IsWhole}

-- the file is a manager file: both are looked at before it is known which slot is live
abbrev pub IsEitherManager : FileId → Type 0
IsEitherManager file = (file ≡ Manager 0) ⊎ (file ≡ Manager 1)

-- one of the files that making a silo calls: it looks at both manager files, and writes those of slot 0
abbrev pub IsMadeFile : FileId → Type 0
IsMadeFile file = IsEitherManager file ⊎ (file ≡ program_file)

-- these bytes name this format
abbrev pub IsFormat : Format → List ℕ → Type 0
IsFormat format bytes = bytes ≡ magic_of format

-- they name one of the formats
abbrev pub IsMagic : List ℕ → Type 0
IsMagic bytes = (format : Format) × IsFormat format bytes

-- whether they do
abbrev pub is_magic : List ℕ → Bool
is_magic bytes = bytes_eq bytes (magic_of One) || bytes_eq bytes (magic_of Two)

-- a manager file of at least 16 bytes, whose first byte, the header gate, is 1 and is followed by such a magic
pub record IsSilo (magic : List ℕ → Type 0) (file : List ℕ) : Type 0 where
  pub long : 16 ≤ length file
  pub gate : slice_index file 0 ≡ 1
  pub named : magic (take 8 (drop 1 file))

-- a program file: the text's length and the text; further bytes are ignored
abbrev pub HasProgram : List ℕ → List ℕ → Type 0
HasProgram text file = take (4 + length text) file ≡ to_le_bytes w32 (length text) ++ text

-- The first 16 bytes of a new silo's manager file, which has format 2: the open header gate, the magic, the generation 0, two
-- zeros, and the closed gate of the first block.
abbrev pub new_header : List ℕ
new_header = 1 ∷ (magic_of Two ++ 0 ∷ 0 ∷ 0 ∷ 0 ∷ 0 ∷ 0 ∷ 0 ∷ [])

-- a silo of this program with an empty log, as it is made
pub record IsNewSilo (text : List ℕ) (image : Image) : Type 0 where
  pub silo : IsSilo (IsFormat Two) (image manager)
  pub header : take 16 (image manager) ≡ new_header
  pub program : HasProgram text (image program_file)
  pub empty : bodies_of (image manager) ≡ []
  pub whole : IsWhole (image manager)
