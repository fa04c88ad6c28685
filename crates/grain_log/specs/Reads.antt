-- What is read at a place of a grain's file: the version, or the offset at which the file is damaged.
use Rattle.std.specs.Prelude.{◌≡◌, ℕ, ◌+◌, ◌-◌, ◌^◌, ◌<◌, ◌≤◌, IfOk, List, length, take, drop, Bool, true, Option, Some, None, Result, Ok, Err, nat_lt, ◌||◌, if◌then◌else◌, slice_get, bytes_eq}
use Rattle.std.specs.Int.{w64, to_le_bytes, from_le_bytes}
use Rattle.base_types.specs.declared.calls.UnitNo.{UnitNo}
use Rattle.base_types.specs.declared.shapes.Shape.{Shape}
use Rattle.base_types.specs.declared.shapes.TypeShape.{TypeShape}
use Rattle.base_types.specs.declared.stores.Place.{Place}
use Rattle.base_types.specs.declared.stores.Version.{Version}
use Rattle.host_trait.specs.declared.channels.FileId.{FileId}
use Rattle.host_trait.specs.declared.channels.FileId.TheVariants.{Program, Manager, Grain}
use Rattle.field_codec.specs.declared.faults.CodecFault.{CodecFault}
use Rattle.field_codec.specs.declared.formats.Format.{Format}
use Rattle.field_codec.specs.declared.units.Numbers.TheVariants.{Logged}
use Rattle.field_codec.specs.Formats.{field_limit, version_limit}
use Rattle.field_codec.specs.Readers.{Reader, whole_text, whole, field, number_at}
use Rattle.field_codec.specs.Fields.{exactly_at}
use Rattle.field_codec.specs.Results.{place_of}
use Rattle.field_codec.specs.Units.{may_be_unit}
use Rattle.grain_log.specs.Places.{IsVersionAt}
use Rattle.grain_log.specs.declared.faults.VersionFault.{VersionFault}
use Rattle.grain_log.specs.declared.faults.VersionFault.TheVariants.{Failed, Damaged, Memory}

-- how many fields a type has
abbrev pub fields_of : Option TypeShape → Option ℕ
fields_of None = None
fields_of (Some type) = Some (length type.initial)

-- how many fields the versions of a file have, none where it is no file of a grain of the program
abbrev pub fields_in : Shape → FileId → Option ℕ
fields_in shape (Program slot) = None
fields_in shape (Manager slot) = None
fields_in shape (Grain slot grain) = fields_of (slice_get shape.types grain.kind)

-- a version with so many fields
unfoldable pub version_in : Format → ℕ → Reader Version
version_in format fields = field (number_at w64) λ unit place. field (exactly_at format (field_limit format) fields) λ state here. whole (record { unit = record { 0 = unit }; state = state })

-- the one version of a whole text
abbrev pub version_of : Format → ℕ → List ℕ → Result Version CodecFault
version_of format fields text = whole_text (version_in format fields) text

-- no version stands there, whatever the file: the offset is 2 to the 63 or more, or the place is longer than any version
abbrev pub is_beyond : Format → Place → Bool
is_beyond format place = nat_lt 9223372036854775807 place.offset || nat_lt (version_limit format) place.len

-- a fault's place, counted in the file
abbrev pub in_file : ℕ → Result Version CodecFault → Result Version ℕ
in_file offset (Ok version) = Ok version
in_file offset (Err fault) = Err (offset + place_of fault)

-- the fault of a text that stands at an offset of a file
abbrev pub damage_at : ℕ → Option ℕ → VersionFault
damage_at offset None = Memory
damage_at offset (Some place) = Damaged (offset + place)

-- a text that isn't there is damaged at its offset
abbrev pub text_in : Format → ℕ → Place → List ℕ → Result Version ℕ
text_in format fields place file = if nat_lt (length file - place.offset) place.len then Err place.offset else in_file place.offset (version_of format fields (take place.len (drop place.offset file)))

-- the version at a place of a file, or where the file is damaged
abbrev pub version_at_place : Format → Option ℕ → Place → List ℕ → Result Version ℕ
version_at_place format None place file = Err place.offset
version_at_place format (Some fields) place file = if is_beyond format place then Err place.offset else text_in format fields place file

-- the eight bytes at the place are the unit's number
abbrev pub is_owned : UnitNo → Place → List ℕ → Bool
is_owned unit place file = bytes_eq (take 8 (drop place.offset file)) (to_le_bytes w64 unit.0)

-- The version of this unit at a place of a file, or where the file is damaged: at the offset, where the version is another
-- unit's.
abbrev pub owned_version : Format → Option ℕ → UnitNo → Place → List ℕ → Result Version ℕ
owned_version format fields unit place file = if is_owned unit place file then version_at_place format fields place file else Err place.offset

-- the eight bytes at the place are the number of a unit of a log
abbrev pub is_logged : Place → List ℕ → Bool
is_logged place file = may_be_unit Logged (from_le_bytes w64 (take 8 (drop place.offset file)))

-- The version of some unit of a log at a place of a file, or where the file is damaged: at the offset, where the version is of a
-- number that no unit of a log has.
abbrev pub saved_version : Format → Option ℕ → Place → List ℕ → Result Version ℕ
saved_version format fields place file = if is_logged place file then version_at_place format fields place file else Err place.offset

-- the version of this unit, or of whichever unit of a log where none is named
abbrev pub version_by_owner : Format → Option ℕ → Option UnitNo → Place → List ℕ → Result Version ℕ
version_by_owner format fields (Some unit) place file = owned_version format fields unit place file
version_by_owner format fields None place file = saved_version format fields place file

-- a text begins with the number of this unit, or of whichever unit of a log where none is named
abbrev pub BeginsBy : Option UnitNo → List ℕ → Type 0
BeginsBy (Some unit) text = take 8 text ≡ to_le_bytes w64 unit.0
BeginsBy None text = (8 ≤ length text) × (may_be_unit Logged (from_le_bytes w64 (take 8 text)) ≡ true)

-- these are the bytes of a file at a place that lies in it
pub record IsTextAt (place : Place) (file text : List ℕ) : Type 0 where
  pub within : place.len ≤ length file - place.offset
  pub bytes : text ≡ take place.len (drop place.offset file)

-- the answer is what stands there, unless a call failed or memory ran out
abbrev pub GivesVersion : Result Version VersionFault → Result Version ℕ → Type 0
GivesVersion (Ok version) found = found ≡ Ok version
GivesVersion (Err (Damaged place)) found = found ≡ Err place
GivesVersion (Err Failed) found = Unit {0}
GivesVersion (Err Memory) found = Unit {0}

-- What is answered of a place of a file: a version only where it stands there, with the type's fields, each that stands there below 2 to
-- the 63, and else the first place that is damaged.
pub record IsReadAt (format : Format) (fields : Option ℕ) (place : Place) (file : List ℕ) (result : Result Version VersionFault) : Type 0 where
  pub found : IfOk result (λ version. (count : ℕ) × (fields ≡ Some count) × IsVersionAt format count place file version)
  pub only : (count : ℕ) (version : Version) → fields ≡ Some count → place.offset < 2 ^ 63 → IsVersionAt format count place file version → GivesVersion result (Ok version)
  pub exact : GivesVersion result (version_at_place format fields place file)

-- there can be no version of the program there
abbrev pub IsImpossible : Format → Option ℕ → Place → Type 0
IsImpossible format None place = Unit {0}
IsImpossible format (Some fields) place = is_beyond format place ≡ true
