-- The versions that a record names, whole in the grains' files.
use Rattle.std.specs.Prelude.{◌≡◌, ℕ, ◌^◌, ◌<◌, List, [], ◌∷◌, length, slice_get, Some, ⊤}
use Rattle.base_types.specs.declared.calls.UnitNo.{UnitNo}
use Rattle.base_types.specs.declared.calls.Value.{Value}
use Rattle.base_types.specs.declared.shapes.Shape.{Shape}
use Rattle.host_trait.specs.declared.channels.FileId.TheVariants.{Grain}
use Rattle.host_trait.specs.World.{Image}
use Rattle.field_codec.specs.declared.formats.Format.{Format}
use Rattle.grain_log.specs.Places.{IsVersionAt}
use Rattle.grain_log.specs.Reads.{fields_of}
use Rattle.field_codec.specs.declared.units.Numbers.TheVariants.{Logged}
use Rattle.commit_log.specs.declared.records.Written.{Written}
use Rattle.commit_log.specs.Bodies.{IsRecordIn}
use Rattle.promise_spec.specs.Records.{Commit}

-- the version of a unit stands whole at the place that its write names, below 2 to the 63, with this state, which has
-- the fields of its type
pub record WriteStands (format : Format) (live : ℕ) (shape : Shape) (image : Image) (unit : UnitNo) (w : Written) (state : List Value) : Type 0 where
  pub near : w.place.offset < 2 ^ 63
  pub fields : fields_of (slice_get shape.types w.grain.kind) ≡ Some (length state)
  pub version : IsVersionAt format (length state) w.place (image (Grain live w.grain)) (record { unit = unit; state = state })

-- each write of a unit has its state, and the version stands
abbrev pub WritesStand : Format → ℕ → Shape → Image → UnitNo → List Written → List (List Value) → Type 0
WritesStand format live shape image unit [] [] = ⊤
WritesStand format live shape image unit (w ∷ ws) (state ∷ states) =
    WriteStands format live shape image unit w state × WritesStand format live shape image unit ws states
WritesStand format live shape image unit _ _ = ⊥

-- The record is within the format's limits, its unit's number is above 0 and its own and its parent's are below 2 to the
-- 63, its call and its grains are the program's, and its versions stand.
pub record IsKept (format : Format) (live : ℕ) (shape : Shape) (image : Image) (c : Commit) : Type 0 where
  pub fits : IsRecordIn format Logged shape c.logged
  pub whole : WritesStand format live shape image c.logged.unit c.logged.writes c.states
