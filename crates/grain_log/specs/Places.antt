-- Versions in a grain's file, one behind the other, and their places.
use Rattle.std.specs.Prelude.{◌≡◌, ℕ, ◌+◌, List, [], ◌∷◌, length, take, drop, Option, Some, None}
use Rattle.std.specs.List.{flat_map}
use Rattle.base_types.specs.declared.stores.Place.{Place}
use Rattle.base_types.specs.declared.stores.Version.{Version}
use Rattle.host_trait.specs.declared.channels.FileId.{FileId}
use Rattle.host_trait.specs.Disk.{MayLeave, overlaid, settled}
use Rattle.host_trait.specs.World.{World}
use Rattle.field_codec.specs.declared.formats.Format.{Format}
use Rattle.field_codec.specs.Spelling.{Stands, spelling_of_version, VersionFits}

-- one spelling behind the other
abbrev pub spelling_of_versions : List Version → List ℕ
spelling_of_versions versions = flat_map spelling_of_version versions

-- the places of these versions, the first of which stands at this offset
abbrev pub places_from : ℕ → List Version → List Place
places_from at [] = []
places_from at (version ∷ versions) = record { offset = at; len = length (spelling_of_version version) } ∷ places_from (at + length (spelling_of_version version)) versions

-- these versions stand in the file, one behind the other, the first at this offset
abbrev pub VersionsStand : List ℕ → ℕ → List Version → Type 0
VersionsStand file at [] = Unit {0}
VersionsStand file at (version ∷ versions) =
    Stands file at (spelling_of_version version) (at + length (spelling_of_version version)) × VersionsStand file (at + length (spelling_of_version version)) versions

-- this version is within the limits of the format, has so many fields, and a spelling of this length
pub record IsVersionOf (format : Format) (fields size : ℕ) (version : Version) : Type 0 where
  pub fits : VersionFits format version
  pub count : length version.state ≡ fields
  pub len : length (spelling_of_version version) ≡ size

-- a version of a type: it has as many fields as the type, and there is such a type
abbrev pub IsVersionIn : Format → Option ℕ → ℕ → Version → Type 0
IsVersionIn format None size version = ⊥
IsVersionIn format (Some fields) size version = IsVersionOf format fields size version

-- this version, with so many fields, stands at this place of the file, with this length
pub record IsVersionAt (format : Format) (fields : ℕ) (place : Place) (file : List ℕ) (version : Version) : Type 0 where
  pub version_is : IsVersionOf format fields place.len version
  pub here : take place.len (drop place.offset file) ≡ spelling_of_version version

-- These versions were written from this offset of a file on, by one sync. Nothing is pending in it, and each of its images has them
-- there, and keeps what stood before.
pub record WroteVersions (file : FileId) (at : ℕ) (versions : List Version) (old new : World) : Type 0 where
  pub there : new.disk file ≡ settled (overlaid (old.disk file).seen at (spelling_of_versions versions))
  pub once : new.syncs ≡ old.syncs + 1
  pub stand : (image : List ℕ) → MayLeave (new.disk file) image → VersionsStand image at versions
  pub front : (image : List ℕ) → MayLeave (new.disk file) image → take at image ≡ take at (old.disk file).seen
