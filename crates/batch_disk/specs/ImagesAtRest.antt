-- What each image has between two steps that write a batch, where this slot is live.
use Rattle.std.specs.Prelude.{◌≡◌, ◌≢◌, ℕ, ◌+◌, ◌≤◌, max, if◌then◌else◌, List, [], ◌∷◌, length, take, slice_index, slice_get, Some, ⊤}
use Rattle.std.specs.List.{flat_map, AllByRecursion}
use Rattle.base_types.specs.declared.calls.GrainId.{GrainId}
use Rattle.base_types.specs.declared.calls.UnitNo.{UnitNo}
use Rattle.base_types.specs.declared.calls.Value.{Value}
use Rattle.base_types.specs.declared.shapes.Shape.{Shape}
use Rattle.base_types.specs.declared.stores.Place.{Place}
use Rattle.base_types.specs.declared.stores.Version.{Version}
use Rattle.host_trait.specs.declared.channels.FileId.TheVariants.{Manager, Grain}
use Rattle.host_trait.specs.Files.{same_grain}
use Rattle.host_trait.specs.World.{Disk, Image, IsImage}
use Rattle.field_codec.specs.declared.formats.Format.TheVariants.{Two}
use Rattle.grain_log.specs.Places.{places_from}
use Rattle.grain_log.specs.Reads.{fields_of}
use Rattle.commit_log.specs.declared.records.Written.{Written}
use Rattle.silo_spec.specs.Silos.{IsMagic}
use Rattle.silo_spec.specs.Slots.{IsLive}
use Rattle.promise_spec.specs.Programs.{shape_in}
use Rattle.promise_spec.specs.Records.{Commit}
use Rattle.promise_spec.specs.Entries.{Log, records_of, standing_of}
use Rattle.promise_spec.specs.Versions.{WriteStands}
use Rattle.promise_spec.specs.Blocks.{Beginning, Fresh, From, saved_by}
use Rattle.promise_spec.specs.Logs.{StandsUpTo}

-- this holds of each image that a crash may leave
abbrev pub EachImage : (Image → Type 0) → Disk → Type 0
EachImage P disk = (image : Image) → IsImage disk image → P image

-- a crash may leave an image of which this holds
pub record SomeImage (P : Image → Type 0) (disk : Disk) : Type 0 where
  pub image : Image
  pub left : IsImage disk image
  pub holds : P image

-- ---- places and ends

-- where the place of a write ends in its grain's file
abbrev pub write_end : Written → ℕ
write_end w = w.place.offset + w.place.len

-- a place ends at most where the log's places in its grain's file do
abbrev pub IsBelow : (GrainId → ℕ) → Written → Type 0
IsBelow ends w = write_end w ≤ ends w.grain

-- so do all places that these records name
abbrev pub AreBelow : (GrainId → ℕ) → List Commit → Type 0
AreBelow ends log = AllByRecursion (λ c. AllByRecursion (IsBelow ends) c.logged.writes) log

-- this holds of each place that the checkpoint names with which a log begins
abbrev pub AreNamedBy : (Written → Type 0) → Beginning → Type 0
AreNamedBy P Fresh = ⊤
AreNamedBy P (From ck) = AllByRecursion (λ s. P s.write) (saved_by ck)

-- the ends once this place is named
abbrev pub raised_end : (GrainId → ℕ) → Written → GrainId → ℕ
raised_end ends w g = if same_grain w.grain g then max (ends g) (write_end w) else ends g

-- the ends once these places are named
abbrev pub raised_ends : (GrainId → ℕ) → List Written → GrainId → ℕ
raised_ends ends [] g = ends g
raised_ends ends (w ∷ ws) g = raised_ends (raised_end ends w) ws g

-- the places that these records name
abbrev pub all_writes : List Commit → List Written
all_writes log = flat_map (λ c. c.logged.writes) log

-- ---- what the votes of the open batch wrote

-- a version that a vote wrote: its unit, its place as the unit's record will name it, and its state
pub record Voted : Type 0 where
  pub unit : UnitNo
  pub write : Written
  pub state : List Value

-- it stands in the image
abbrev pub StandsIn : ℕ → Shape → Image → Voted → Type 0
StandsIn live shape image v = WriteStands Two live shape image v.unit v.write v.state

-- none of these versions is in the grain's file
abbrev pub NotAmong : GrainId → List Voted → Type 0
NotAmong grain voted = AllByRecursion (λ v. v.write.grain ≢ grain) voted

-- these versions of a grain, at these places of its file
abbrev pub voted_at : GrainId → List Place → List Version → List Voted
voted_at grain [] vs = []
voted_at grain (p ∷ ps) [] = []
voted_at grain (p ∷ ps) (v ∷ vs) = record { unit = v.unit; write = record { grain = grain; place = p }; state = v.state } ∷ voted_at grain ps vs

-- these versions of a grain, one behind the other from this offset of its file on
abbrev pub voted_from : GrainId → ℕ → List Version → List Voted
voted_from grain at vs = voted_at grain (places_from at vs) vs

-- the versions have as many fields as the grain's type
abbrev pub AreOfType : Shape → GrainId → List Version → Type 0
AreOfType shape grain versions = AllByRecursion (λ v. fields_of (slice_get shape.types grain.kind) ≡ Some (length v.state)) versions

-- ---- between two steps

-- What no image decides: the shape is that of the program in force, and all that the log's records name ends at most at these ends.
pub record PlacesAreNamed (shape : Shape) (log : Log) (ends : GrainId → ℕ) : Type 0 where
  pub shape_is : shape ≡ shape_in (standing_of log).program
  pub below : AreBelow ends (records_of log)

-- What each image has: this live slot and header; the log, which stands up to this closed gate, with this session so far; grain files that go on to these ends
-- at least, at which all that its beginning names ends at most; and the versions that the votes of the open batch wrote.
pub record IsAtRest (live : ℕ) (shape : Shape) (head : List ℕ) (log : Log) (bodies : List (List ℕ)) (gate reached : ℕ) (ends : GrainId → ℕ) (voted : List Voted) (image : Image) : Type 0 where
  pub is_live : IsLive IsMagic live image
  pub header : take 15 (image (Manager live)) ≡ head
  pub stands : StandsUpTo Two live image log bodies gate reached
  pub closed : slice_index (image (Manager live)) gate ≢ 1
  pub begun : AreNamedBy (IsBelow ends) stands.begins
  pub long : (g : GrainId) → ends g ≤ length (image (Grain live g))
  pub stand : AllByRecursion (StandsIn live shape image) voted
