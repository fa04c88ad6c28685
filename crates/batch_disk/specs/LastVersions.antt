-- What reading a grain's last version answers.
use Rattle.std.specs.Prelude.{◌≡◌, ℕ, Bool, IsTrue, false, if◌then◌else◌, Option, Some, None, Result, Ok, Err}
use Rattle.base_types.specs.Places.{placed_in}
use Rattle.base_types.specs.declared.calls.GrainId.{GrainId}
use Rattle.base_types.specs.declared.places.Placed.{Placed}
use Rattle.base_types.specs.declared.shapes.Shape.{Shape}
use Rattle.base_types.specs.declared.stores.Version.{Version}
use Rattle.cell_model.specs.Units.{nobody}
use Rattle.host_trait.specs.declared.channels.Channel.{Channel}
use Rattle.host_trait.specs.declared.channels.Channel.TheVariants.{File}
use Rattle.host_trait.specs.declared.channels.FileId.TheVariants.{Grain}
use Rattle.host_trait.specs.Faults.{NoneFailed, FailedOn}
use Rattle.host_trait.specs.World.{World}
use Rattle.grain_log.specs.declared.faults.VersionFault.{VersionFault}
use Rattle.grain_log.specs.declared.faults.VersionFault.TheVariants.{Failed, Damaged, Memory}
use Rattle.program_file.specs.Succession.{newest_program}
use Rattle.batch_disk.specs.KeptPlaces.{PlacesStand}
use Rattle.program_file.specs.ProgramsInTurn.{HasItsFields}
use Rattle.batch_disk.specs.Writers.{programs_of}
use Rattle.batch_disk.specs.declared.writer.BatchWriter.{BatchWriter}

-- a grain's last version as a core is told of it: nobody's where the log that was opened names it
abbrev pub version_told : Placed → Version
version_told p = record { unit = (if p.is_new then p.known.version.unit else nobody); state = p.known.version.state }

module _ {H : Type 0} (tells : Bool) (world : H → World) (faults : H → Channel → ℕ) (live : ℕ) (shape : Shape) (g : GrainId) (writer : BatchWriter) (old new : H) where
  -- A version of the grain's type was read at its place, and carried to the program in force, by which it has its fields. Where the
  -- versions stand it is the one that is kept; over every host it is nobody's where the log that was opened names it.
  pub record IsLastRead (version : Version) : Type 0 where
    pub p : Placed
    pub placed : placed_in writer.places g ≡ Some p
    pub typed : HasItsFields (newest_program (programs_of writer)) g version.state
    pub older : p.is_new ≡ false → version.unit ≡ nobody
    pub told : IsTrue tells → PlacesStand live shape writer (world old).disk → version ≡ version_told p
    pub calm : NoneFailed (faults old) (faults new)

  -- No version of the grain's type stands at its place, where the versions don't stand, or the host doesn't tell.
  pub record IsDamaged : Type 0 where
    pub p : Placed
    pub placed : placed_in writer.places g ≡ Some p
    pub untold : IsTrue tells → PlacesStand live shape writer (world old).disk → ⊥
    pub calm : NoneFailed (faults old) (faults new)

  -- A call on the grain's file failed, where it has a last version.
  pub record IsUnread : Type 0 where
    pub p : Placed
    pub placed : placed_in writer.places g ≡ Some p
    pub fault : FailedOn (File (Grain live g)) (faults old) (faults new)

  -- by the answer; no host call where there is no version
  abbrev pub ReadsLast : Result (Option Version) VersionFault → Type 0
  ReadsLast (Ok None) = (placed_in writer.places g ≡ None) × (new ≡ old)
  ReadsLast (Ok (Some version)) = IsLastRead version
  ReadsLast (Err (Damaged place)) = IsDamaged
  ReadsLast (Err Failed) = IsUnread
  ReadsLast (Err Memory) = NoneFailed (faults old) (faults new)
