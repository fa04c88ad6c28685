-- The versions that a log names, and the first that isn't there.
use Rattle.std.specs.Prelude.{ℕ, ◌+◌, ◌^◌, ◌<◌, Bool, false, if◌then◌else◌, List, [], ◌∷◌, ◌++◌, map, filter, slice_get, Option, Some, None, Result, Ok, Err}
use Rattle.std.specs.List.{flat_map}
use Rattle.base_types.specs.declared.calls.GrainId.{GrainId}
use Rattle.base_types.specs.declared.calls.Value.{Value}
use Rattle.base_types.specs.declared.shapes.Shape.{Shape}
use Rattle.base_types.specs.declared.stores.Version.{Version}
use Rattle.host_trait.specs.declared.channels.FileId.{FileId}
use Rattle.host_trait.specs.declared.channels.FileId.TheVariants.{Grain}
use Rattle.host_trait.specs.Files.{same_grain}
pub use Rattle.base_types.specs.Grains.{is_before}
use Rattle.host_trait.specs.World.{Image}
use Rattle.field_codec.specs.declared.formats.Format.{Format}
use Rattle.base_types.specs.declared.stores.Place.{Place}
use Rattle.grain_log.specs.Places.{IsVersionIn}
use Rattle.grain_log.specs.Reads.{fields_of, version_by_owner}
use Rattle.commit_log.specs.declared.records.Named.{Named}
use Rattle.log_reading.specs.Blocks.{LogBase, ReadEntry, ReadRecord, ReadUpgrade, LogRead}

-- the versions that entries name, in the log's order, where the program of this number is in force before them
abbrev pub named_by : ℕ → List ReadEntry → List Named
named_by number [] = []
named_by number (ReadRecord r ∷ later) = map (λ w. record { unit = Some r.unit; program = number; written = w }) r.writes ++ named_by number later
named_by number (ReadUpgrade p ∷ later) = named_by (number + 1) later

-- the versions that a checkpoint names: it names no unit, and has the program of the folder
abbrev pub named_of_base : LogBase → List Named
named_of_base base = map (λ w. record { unit = None; program = 0; written = w }) base.writes

-- the versions that a log names: those of what it begins with, and then those of its entries
abbrev pub named_in : LogRead → List Named
named_in log = named_of_base log.base ++ named_by 0 log.entries

-- one more grain in an ascending list, each once
abbrev pub ascending_with : GrainId → List GrainId → List GrainId
ascending_with g [] = g ∷ []
ascending_with g (h ∷ hs) = if same_grain g h then h ∷ hs else (if is_before g h then g ∷ h ∷ hs else h ∷ ascending_with g hs)

-- these grains in ascending order, each once
abbrev pub ascending : List GrainId → List GrainId
ascending [] = []
ascending (g ∷ gs) = ascending_with g (ascending gs)

-- named versions by grains in ascending order, those of one grain in the log's order
abbrev pub named_by_grain : List Named → List Named
named_by_grain named =
    flat_map (λ g. filter (λ (n : Named). same_grain n.written.grain g) named) (ascending (map (λ n. n.written.grain) named))

-- the version behind this one is of its grain too
abbrev pub goes_on : Named → List Named → Bool
goes_on n [] = false
goes_on n (m ∷ named) = same_grain n.written.grain m.written.grain

-- of named versions by grains, the last of each grain
abbrev pub latest_of : List Named → List Named
latest_of [] = []
latest_of (n ∷ named) = if goes_on n named then latest_of named else n ∷ latest_of named

-- the version that is named, or where its file is damaged: it is the unit's, or any unit's of a log where none is named, and has its
-- type's fields
abbrev pub version_named : ℕ → Format → Shape → Image → Named → Result Version ℕ
version_named live format shape image n =
    version_by_owner format (fields_of (slice_get shape.types n.written.grain.kind)) n.unit n.written.place (image (Grain live n.written.grain))

-- a version has as many fields as its grain's type, and is as long as it is named
abbrev pub IsTyped : Format → Shape → Named → Version → Type 0
IsTyped format shape n version = IsVersionIn format (fields_of (slice_get shape.types n.written.grain.kind)) n.written.place.len version

-- a place ends below 2^63
abbrev pub IsNearPlace : Place → Type 0
IsNearPlace place = place.offset + place.len < 2 ^ 63

-- the same by the shape of the program of its time: where there is none, it isn't there
abbrev pub version_by_shape : ℕ → Format → Option Shape → Image → Named → Result Version ℕ
version_by_shape live format None image n = Err n.written.place.offset
version_by_shape live format (Some shape) image n = version_named live format shape image n

-- by the shapes of the programs, which its number tells apart
abbrev pub version_numbered : ℕ → Format → List Shape → Image → Named → Result Version ℕ
version_numbered live format shapes image n = version_by_shape live format (slice_get shapes n.program) image n

-- the file and the place of a version that isn't there, else of a later one
abbrev pub missing_or : ℕ → GrainId → Result Version ℕ → Option (FileId × ℕ) → Option (FileId × ℕ)
missing_or live grain (Ok version) later = later
missing_or live grain (Err place) later = Some (Grain live grain, place)

-- of the first of these versions that isn't there
abbrev pub first_missing : ℕ → Format → List Shape → Image → List Named → Option (FileId × ℕ)
first_missing live format shapes image [] = None
first_missing live format shapes image (n ∷ named) =
    missing_or live n.written.grain (version_numbered live format shapes image n) (first_missing live format shapes image named)

-- the version that was found, nobody's without fields where none was
abbrev pub version_found : Result Version ℕ → Version
version_found (Ok version) = version
version_found (Err place) = record { unit = record { 0 = 0 }; state = [] }

-- a version's state
abbrev pub state_of : Result Version ℕ → List Value
state_of (Ok version) = version.state
state_of (Err place) = []
