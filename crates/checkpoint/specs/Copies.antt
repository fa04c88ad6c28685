-- Versions that were copied into the files of the slot that isn't live, as the program in force has them.
use Rattle.std.specs.Prelude.{◌≡◌, ℕ, ◌-◌, List, map, length, take, None, Ok}
use Rattle.std.specs.List.{AllByRecursion}
use Rattle.base_types.specs.declared.calls.GrainId.{GrainId}
use Rattle.base_types.specs.declared.shapes.Shape.{Shape}
use Rattle.base_types.specs.declared.stores.Version.{Version}
use Rattle.host_trait.specs.declared.channels.FileId.TheVariants.{Grain}
use Rattle.host_trait.specs.Disk.{FileState, settled}
use Rattle.host_trait.specs.World.{Disk, Image}
use Rattle.field_codec.specs.declared.formats.Format.TheVariants.{Two}
use Rattle.field_codec.specs.Spelling.{spelling_of_version, VersionFits}
use Rattle.commit_log.specs.declared.records.Named.{Named}
use Rattle.commit_log.specs.declared.records.Written.{Written}
use Rattle.script_tree.specs.Programs.{ProgramTree}
use Rattle.program_file.specs.Succession.{newest_program, shapes_in_turn, version_meant}
use Rattle.program_file.specs.ProgramsInTurn.{HasItsFields}
use Rattle.log_reading.specs.Versions.{version_numbered}

-- how a checkpoint names a copy of this length: at the start of its grain's file, any unit's, and of the folder's first program
abbrev pub name_of_copy : GrainId → ℕ → Named
name_of_copy grain len = record { unit = None; program = 0; written = record { grain = grain; place = record { offset = 0; len = len } } }

-- where named versions stand, each with its grain
abbrev pub writes_named : List Named → List Written
writes_named named = map (λ n. n.written) named

-- each of these versions is there, as it is named in the live slot's files
abbrev pub AreThere : ℕ → List Shape → Image → List Named → Type 0
AreThere live shapes seen named = AllByRecursion (λ n. (version : Version) × (version_numbered live Two shapes seen n ≡ Ok version)) named

-- this version stands at the start of a file, in which nothing is pending
pub record StandsFirst (version : Version) (file : FileState) : Type 0 where
  pub lasts : file ≡ settled file.seen
  pub there : take (length (spelling_of_version version)) file.seen ≡ spelling_of_version version

-- The version that is named in the live slot's files, as the last of these programs has it: of the same unit, and with its state carried
-- to each program that came into force after that of its time.
pub record IsMeantVersion (live : ℕ) (programs : List ProgramTree) (seen : Image) (n : Named) (carried : Version) : Type 0 where
  pub version : Version
  pub found : version_numbered live Two (shapes_in_turn programs) seen n ≡ Ok version
  pub meant : carried ≡ version_meant programs n.program n.written.grain version

-- The version that is named in the live slot's files is copied: as the last of these programs has it, with its type's fields there, it
-- stands at the start of its grain's file in the other slot, in which nothing is pending, and its copy is named as long as its
-- spelling is.
pub record IsCopied (live : ℕ) (programs : List ProgramTree) (seen : Image) (disk : Disk) (n copy : Named) : Type 0 where
  pub copied : Version
  pub carried : IsMeantVersion live programs seen n copied
  pub typed : HasItsFields (newest_program programs) n.written.grain copied.state
  pub fits : VersionFits Two copied
  pub named : copy ≡ name_of_copy n.written.grain (length (spelling_of_version copied))
  pub stands : StandsFirst copied (disk (Grain (1 - live) n.written.grain))
