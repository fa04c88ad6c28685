-- The versions that stand at places which are kept, and what their states mean under the last of the programs.
use Rattle.std.specs.Prelude.{◌≡◌, ℕ, if◌then◌else◌, List, [], ◌∷◌, Option, Some, None, Result, Err, slice_get, ⊤}
use Rattle.base_types.specs.declared.calls.GrainId.{GrainId}
use Rattle.base_types.specs.declared.calls.Value.{Value}
use Rattle.base_types.specs.declared.shapes.Shape.{Shape}
use Rattle.base_types.specs.declared.stores.Place.{Place}
use Rattle.base_types.specs.declared.stores.Version.{Version}
use Rattle.base_types.specs.declared.places.Placed.{Placed}
use Rattle.base_types.specs.declared.places.Places.{Places}
use Rattle.base_types.specs.Places.{placed_in}
use Rattle.host_trait.specs.World.{Image}
use Rattle.host_trait.specs.Files.{same_grain}
use Rattle.host_trait.specs.declared.channels.FileId.TheVariants.{Grain}
use Rattle.field_codec.specs.declared.formats.Format.{Format}
use Rattle.grain_log.specs.Reads.{fields_of, version_at_place}
use Rattle.grain_log.specs.declared.faults.VersionFault.{VersionFault}
use Rattle.script_tree.specs.Programs.{ProgramTree}
use Rattle.program_file.specs.Succession.{shapes_in_turn, carried_from}
use Rattle.log_reading.specs.Versions.{state_of}
use Rattle.log_reading.specs.declared.faults.FolderFault.{FolderFault}

-- the version that stands at a place of a grain's live file, whoever's it is, or where the file is damaged
abbrev pub version_placed : ℕ → Format → Shape → Image → GrainId → Place → Result Version ℕ
version_placed live format shape image grain place = version_at_place format (fields_of (slice_get shape.types grain.kind)) place (image (Grain live grain))

-- the same by the shape of the program under which it was written: where there is none, no version stands there
abbrev pub placed_by_shape : ℕ → Format → Option Shape → Image → GrainId → Place → Result Version ℕ
placed_by_shape live format None image grain place = Err place.offset
placed_by_shape live format (Some shape) image grain place = version_placed live format shape image grain place

-- by the shapes of the programs, which a place's number tells apart
abbrev pub placed_numbered : ℕ → Format → List Shape → Image → GrainId → Placed → Result Version ℕ
placed_numbered live format shapes image grain p = placed_by_shape live format (slice_get shapes p.program) image grain p.place

-- the state that the version at a grain's place means under the last of these programs, or the one of before where the grain has no place
abbrev pub state_placed : ℕ → Format → List ProgramTree → Image → GrainId → Option Placed → Option (List Value) → Option (List Value)
state_placed live format programs image grain None old = old
state_placed live format programs image grain (Some p) old =
    Some (carried_from programs p.program grain.kind (state_of (placed_numbered live format (shapes_in_turn programs) image grain p)))

-- a grain's state after one grain's version was read at its place, from the state of before
abbrev pub state_reread : ℕ → Format → List ProgramTree → Image → Places → Option (List Value) → GrainId → GrainId → Option (List Value)
state_reread live format programs image places old grain other =
    if same_grain grain other then state_placed live format programs image grain (placed_in places grain) old else old

-- a grain's state after these grains' versions were read, from the state of before
abbrev pub states_reread : ℕ → Format → List ProgramTree → Image → Places → Option (List Value) → List GrainId → GrainId → Option (List Value)
states_reread live format programs image places old [] other = old
states_reread live format programs image places old (grain ∷ grains) other =
    states_reread live format programs image places (state_reread live format programs image places old grain other) grains other

-- the fault of a version of a grain's file
abbrev pub fault_of : ℕ → GrainId → VersionFault → FolderFault
fault_of slot grain (VersionFault.Damaged place) = FolderFault.Damaged (Grain slot grain) place
fault_of slot grain VersionFault.Failed = FolderFault.Failed (Grain slot grain)
fault_of slot grain VersionFault.Memory = FolderFault.Memory

-- what a fault says of reading a grain's version at its place: no version stands there, or a call on its file failed
abbrev pub IsUnreadAt : ℕ → Format → List Shape → Image → GrainId → Option Placed → FolderFault → Type 0
IsUnreadAt live format shapes image grain placed (FolderFault.Damaged file at) =
    (file ≡ Grain live grain) × ((p : Placed) × (placed ≡ Some p) × (placed_numbered live format shapes image grain p ≡ Err at))
IsUnreadAt live format shapes image grain placed (FolderFault.Failed file) = file ≡ Grain live grain
IsUnreadAt live format shapes image grain placed FolderFault.Memory = ⊤
