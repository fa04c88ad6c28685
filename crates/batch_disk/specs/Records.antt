-- The records of a batch's units to commit, with the places that its votes keep.
use Rattle.std.specs.Prelude.{ℕ, ◌≡◌, ◌<◌, ◌^◌, if◌then◌else◌, Bool, true, ◌&&◌, List, [], ◌∷◌, Option, Some, None, length, map, ⊤}
use Rattle.std.specs.List.{AllByRecursion}
use Rattle.base_types.specs.declared.calls.GrainId.{GrainId}
use Rattle.base_types.specs.declared.calls.UnitNo.{UnitNo}
use Rattle.base_types.specs.declared.calls.Value.{Value}
use Rattle.base_types.specs.declared.shapes.Shape.{Shape}
use Rattle.base_types.specs.declared.stores.Place.{Place}
use Rattle.host_trait.specs.Files.{same_grain}
use Rattle.cell_model.specs.Units.{same_unit, Member}
use Rattle.core_model.specs.declared.effects.Effect.{Effect}
use Rattle.field_codec.specs.declared.formats.Format.TheVariants.{Two}
use Rattle.gate_block.specs.Blocks.{block_of}
use Rattle.field_codec.specs.Units.{may_be_unit, HasParent}
use Rattle.field_codec.specs.declared.units.Numbers.TheVariants.{Logged}
use Rattle.commit_log.specs.declared.records.Written.{Written}
use Rattle.commit_log.specs.declared.records.CommitRecord.{CommitRecord}
use Rattle.commit_log.specs.Bodies.{IsCallIn, IsShapeType}
use Rattle.commit_log.specs.declared.contents.Body.TheVariants as body
use Rattle.commit_log.specs.Spelling.{RecordsFit}
use Rattle.commit_log.specs.Sessions.{spelling_with_session}
use Rattle.promise_spec.specs.Records.{Commit}
use Rattle.batch_disk.specs.ImagesAtRest.{Voted}
use Rattle.batch_disk.specs.Writers.{kept_of}
use Rattle.batch_disk.specs.declared.records.SealWork.{SealWork}
use Rattle.batch_disk.specs.declared.writer.BatchWriter.{BatchWriter}

-- a unit's version of a grain
abbrev pub is_version : UnitNo → GrainId → Voted → Bool
is_version unit grain v = same_unit v.unit unit && same_grain v.write.grain grain

-- the place of a unit's version of a grain among those that were voted
abbrev pub place_among : UnitNo → GrainId → List Voted → Option Place
place_among unit grain [] = None
place_among unit grain (v ∷ vs) = if is_version unit grain v then Some v.write.place else place_among unit grain vs

-- each write of a unit has its place, in order
abbrev pub HavePlaces : List Voted → UnitNo → List (GrainId × List Value) → List Written → Type 0
HavePlaces voted unit [] [] = ⊤
HavePlaces voted unit [] (w ∷ ws) = ⊥
HavePlaces voted unit (x ∷ xs) [] = ⊥
HavePlaces voted unit (x ∷ xs) (w ∷ ws) = ((w.grain ≡ x.0) × (place_among unit x.0 voted ≡ Some w.place)) × HavePlaces voted unit xs ws

-- the record of a unit with this effect, with the places of what it wrote
pub record IsRecordFor (voted : List Voted) (e : Effect) (r : CommitRecord) : Type 0 where
  pub unit : r.unit ≡ e.unit
  pub origin : r.origin ≡ e.origin
  pub call : r.call ≡ e.call
  pub answers : r.answers ≡ e.answers
  pub result : r.result ≡ e.result
  pub writes : HavePlaces voted e.unit e.writes r.writes

-- one for each unit, in their order
abbrev pub AreRecordsFor : List Voted → List Effect → List CommitRecord → Type 0
AreRecordsFor voted [] [] = ⊤
AreRecordsFor voted [] (r ∷ rs) = ⊥
AreRecordsFor voted (e ∷ es) [] = ⊥
AreRecordsFor voted (e ∷ es) (r ∷ rs) = IsRecordFor voted e r × AreRecordsFor voted es rs

-- the records, each with the states that its unit wrote
abbrev pub commits_by : List Effect → List CommitRecord → List Commit
commits_by [] rs = []
commits_by (e ∷ es) [] = []
commits_by (e ∷ es) (r ∷ rs) = record { logged = r; states = map (λ x. x.1) e.writes } ∷ commits_by es rs

-- a version that is kept has this place
pub record IsPlaceOfOne (kept : List Voted) (w : Written) : Type 0 where
  pub version : Voted
  pub member : Member version kept
  pub place : version.write ≡ w

-- the place that a unit's record names is that of the unit's version of the grain
abbrev pub IsOwnPlace : List Voted → UnitNo → Written → Type 0
IsOwnPlace kept unit w = place_among unit w.grain kept ≡ Some w.place

-- the body of a block of these records, in this session
abbrev pub sealed_body : ℕ → List CommitRecord → List ℕ
sealed_body session records = spelling_with_session Two session (body.Records records)

-- The block is that of the records in the writer's session, within the format's limits, and all that they name is kept, each record's as its own unit's: it
-- can be sealed, and count, without memory.
pub record IsSealable (writer : BatchWriter) (work : SealWork) : Type 0 where
  pub fits : RecordsFit Two work.records
  pub small : length (sealed_body writer.session work.records) < 2 ^ 32
  pub block : work.block ≡ block_of (sealed_body writer.session work.records)
  pub kept : AllByRecursion (λ r. AllByRecursion (IsPlaceOfOne (kept_of writer)) r.writes) work.records
  pub own : AllByRecursion (λ r. AllByRecursion (IsOwnPlace (kept_of writer) r.unit) r.writes) work.records

-- ---- what is asked of the units to commit

-- the unit's number and its parent's may be logged, and its call and its grains are the program's
pub record MayBeLogged (shape : Shape) (e : Effect) : Type 0 where
  pub unit : may_be_unit Logged e.unit.0 ≡ true
  pub parent : HasParent Logged e.origin
  pub call : IsCallIn shape e.call
  pub writes : AllByRecursion (λ x. IsShapeType shape x.0.kind) e.writes

-- what the votes wrote of the unit is what the unit wrote
abbrev pub IsAsWritten : List Voted → Effect → Type 0
IsAsWritten voted e = AllByRecursion (λ x. (v : Voted) → Member v voted → v.unit ≡ e.unit → v.write.grain ≡ x.0 → v.state ≡ x.1) e.writes
