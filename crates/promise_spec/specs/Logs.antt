-- The log of an image: that of its live slot, in one of the formats.
use Rattle.std.specs.Prelude.{◌≡◌, ◌≢◌, ℕ, List, ◌∷◌, ◌++◌, map, slice_index}
use Rattle.std.specs.Int.{w32, to_le_bytes}
use Rattle.std.specs.List.{flat_map, AllByRecursion}
pub use Rattle.base_types.specs.Lists.{IsPrefix}
use Rattle.host_trait.specs.declared.channels.FileId.TheVariants.{Manager, Program as ProgramFile}
use Rattle.host_trait.specs.World.{Image}
use Rattle.field_codec.specs.declared.formats.Format.{Format}
use Rattle.field_codec.specs.declared.formats.Format.TheVariants.{Two}
use Rattle.field_codec.specs.Formats.{magic_of}
use Rattle.gate_block.specs.Log.{HasBlocks, open_blocks}
-- the eight bytes after the header gate, which name a silo and its format
pub use Rattle.silo_spec.specs.Silos.{IsFormat, IsMagic}
use Rattle.silo_spec.specs.Silos.{IsSilo, HasProgram}
use Rattle.silo_spec.specs.Slots.{IsLive}
use Rattle.promise_spec.specs.Programs.{Program, IsChecked}
use Rattle.promise_spec.specs.Entries.{Log}
use Rattle.promise_spec.specs.Blocks.{Block, entries_in, body_of, BlockFits, NeverFall, AreKept, Beginning, begin_byte, base_of, session_before, bodies_before, BeginsWhole}

-- This log stands in a slot's files in a format, up to this gate and with this greatest session: the manager file is a silo's of the
-- format, whose byte 13 says how the log begins and whose byte 14 is zero; the program file has a checked program, over which the base
-- is what that beginning stands for; and from byte 15 on stand the open blocks of the beginning and then of the entries, whose sessions
-- never fall, and each of which is kept whole, as the beginning is.
pub record StandsUpTo (format : Format) (slot : ℕ) (image : Image) (log : Log) (bodies : List (List ℕ)) (gate session : ℕ) : Type 0 where
  pub silo : IsSilo (IsFormat format) (image (Manager slot))
  pub program : Program
  pub checked : IsChecked program
  pub text : HasProgram program.text (image (ProgramFile slot))
  pub begins : Beginning
  pub kind : slice_index (image (Manager slot)) 13 ≡ begin_byte begins
  pub zero : slice_index (image (Manager slot)) 14 ≡ 0
  pub base : log.base ≡ base_of program begins
  pub whole : BeginsWhole format slot program image begins
  pub blocks : List Block
  pub fit : AllByRecursion (BlockFits format) blocks
  pub never_fall : NeverFall (session_before begins) blocks session
  pub spelled : bodies ≡ bodies_before format begins ++ map (body_of format) blocks
  pub stand : HasBlocks bodies gate (image (Manager slot))
  pub entries : log.entries ≡ flat_map entries_in blocks
  pub kept : AreKept format slot image program log.entries

-- The log of a slot's files: it stands up to a closed gate.
pub record IsLogIn (format : Format) (slot : ℕ) (image : Image) (log : Log) : Type 0 where
  pub bodies : List (List ℕ)
  pub gate : ℕ
  pub session : ℕ
  pub stands : StandsUpTo format slot image log bodies gate session
  pub closed : slice_index (image (Manager slot)) gate ≢ 1

-- the log of an image, of which this slot is live and has this format
pub record IsLogOf (format : Format) (live : ℕ) (image : Image) (log : Log) : Type 0 where
  pub is_live : IsLive IsMagic live image
  pub is : IsLogIn format live image log

-- in the format in which all commands write
abbrev pub IsLog : ℕ → Image → Log → Type 0
IsLog live image log = IsLogOf Two live image log

-- in whichever format, whichever slot is live
abbrev pub HasLog : Image → Log → Type 0
HasLog image log = (format : Format) × (live : ℕ) × IsLogOf format live image log

-- A manager file as `compact` and `migrate` write it, once its header gate is open: format 2, the generation, how the log begins, and the
-- open blocks of these bodies up to a closed gate, whatever stands behind it.
abbrev pub written_file : ℕ → Beginning → List (List ℕ) → List ℕ → List ℕ
written_file generation begins bodies rest =
    1 ∷ (magic_of Two ++ (to_le_bytes w32 generation ++ (begin_byte begins ∷ 0 ∷ (open_blocks bodies ++ 0 ∷ rest))))
