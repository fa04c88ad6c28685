-- The versions that stand at the places which a writer keeps, as the files of its slot read.
use Rattle.std.specs.Prelude.{◌≡◌, ℕ, ◌+◌, ◌≤◌, List, Option, Some, None, Ok, slice_get, ⊤}
use Rattle.std.specs.List.{AllByRecursion}
use Rattle.base_types.specs.Places.{placed_in}
use Rattle.base_types.specs.declared.calls.GrainId.{GrainId}
use Rattle.base_types.specs.declared.places.Placed.{Placed}
use Rattle.base_types.specs.declared.shapes.Shape.{Shape}
use Rattle.base_types.specs.declared.stores.Place.{Place}
use Rattle.base_types.specs.declared.stores.Version.{Version}
use Rattle.host_trait.specs.declared.channels.FileId.TheVariants.{Grain}
use Rattle.host_trait.specs.World.{Disk}
use Rattle.field_codec.specs.declared.formats.Format.TheVariants.{Two}
use Rattle.grain_log.specs.Reads.{fields_of, version_at_place}
use Rattle.batch_disk.specs.ImagesAtRest.{Voted}
use Rattle.script_tree.specs.Programs.{ProgramTree}
use Rattle.program_file.specs.Succession.{shapes_in_turn, version_meant}
use Rattle.batch_disk.specs.Writers.{file_end, kept_of, programs_of, newest_number}
use Rattle.batch_disk.specs.declared.writer.BatchWriter.{BatchWriter}

-- this version of a grain of the program stands at a place of its file, as the file reads
abbrev pub StandsAt : ℕ → Shape → Disk → GrainId → Place → Version → Type 0
StandsAt live shape disk g place version = version_at_place Two (fields_of (slice_get shape.types g.kind)) place (disk (Grain live g)).seen ≡ Ok version

-- the version that a vote wrote
abbrev pub version_of : Voted → Version
version_of v = record { unit = v.unit; state = v.state }

-- it stands at its place
abbrev pub VoteStands : ℕ → Shape → Disk → Voted → Type 0
VoteStands live shape disk v = StandsAt live shape disk v.write.grain v.write.place (version_of v)

-- this version stands there by the shape of the program under which it was written, where there is such a program
abbrev pub StandsBy : ℕ → Option Shape → Disk → GrainId → Place → Version → Type 0
StandsBy live None disk g place version = ⊥
StandsBy live (Some shape) disk g place version = StandsAt live shape disk g place version

-- A version of a grain stands at its place by the shape of the program under which it was written. Under the last of these programs it is the
-- one that is kept. The place ends at most where the log's places in the grain's file do.
pub record IsTold (live : ℕ) (programs : List ProgramTree) (disk : Disk) (ends : GrainId → ℕ) (g : GrainId) (p : Placed) : Type 0 where
  pub version : Version
  pub stands : StandsBy live (slice_get (shapes_in_turn programs) p.program) disk g p.place version
  pub known : p.known.version ≡ version_meant programs p.program g version
  pub below : p.place.offset + p.place.len ≤ ends g

-- so it is with a grain's last version, where it has one
abbrev pub PlaceStands : ℕ → List ProgramTree → Disk → (GrainId → ℕ) → GrainId → Option Placed → Type 0
PlaceStands live programs disk ends g None = ⊤
PlaceStands live programs disk ends g (Some p) = IsTold live programs disk ends g p

-- All that a writer keeps the places of stands there: each grain's last version, and what the votes of the open batch wrote under the
-- program in force, whose shape this is.
pub record PlacesStand (live : ℕ) (shape : Shape) (writer : BatchWriter) (disk : Disk) : Type 0 where
  pub shape_is : slice_get (shapes_in_turn (programs_of writer)) (newest_number writer) ≡ Some shape
  pub placed : (g : GrainId) → PlaceStands live (programs_of writer) disk (file_end writer) g (placed_in writer.places g)
  pub kept : AllByRecursion (VoteStands live shape disk) (kept_of writer)
