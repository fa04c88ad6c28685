-- The lines that a run writes.
use Rattle.std.specs.Prelude.{◌≡◌, ◌≢◌, ℕ, ◌<◌, ◌^◌, List, [], ◌∷◌, ◌++◌, length, ⊤}
use Rattle.std.specs.List.{flat_map, AllByRecursion}
use Rattle.base_types.specs.declared.calls.GrainId.{GrainId}
use Rattle.base_types.specs.declared.calls.UnitNo.{UnitNo}
use Rattle.base_types.specs.declared.entries.Entry.{Entry}
use Rattle.base_types.specs.declared.entries.Settled.{Settled}
use Rattle.base_types.specs.declared.entries.Settled.TheVariants.{Done, Lock, Vote, Dependency, Bad}
use Rattle.base_types.specs.declared.shapes.Shape.{Shape}
use Rattle.base_types.specs.declared.shapes.TypeShape.{TypeShape}
use Rattle.cell_model.specs.Units.{nobody}
use Rattle.field_codec.specs.declared.formats.Format.TheVariants.{Two}
use Rattle.field_codec.specs.Spelling.{ResultFits}
use Rattle.request_wire.specs.Reply.{reply_line}

-- a bad line has nobody's unit, every other one a unit's number
abbrev pub HasUnit : UnitNo → Settled → Type 0
HasUnit unit (Bad why) = unit ≡ nobody
HasUnit unit _ = (0 < unit.0) × (unit.0 < 2 ^ 64)

-- a grain of one of the program's types
abbrev pub IsGrainIn : Shape → GrainId → Type 0
IsGrainIn shape grain = (grain.kind < length shape.types) × (grain.key < 2 ^ 32)

-- what an entry may say: no outcome that is an abort, values and texts within their limits, and grains of the program
abbrev pub MaySay : Shape → Settled → Type 0
MaySay shape (Done outcome) = ResultFits Two outcome
MaySay shape (Lock by grain) = (by.0 < 2 ^ 64) × IsGrainIn shape grain
MaySay shape (Vote grain) = IsGrainIn shape grain
MaySay shape (Dependency on) = on.0 < 2 ^ 64
MaySay shape _ = ⊤

-- an entry of those that a core settles
pub record IsProper (shape : Shape) (e : Entry) : Type 0 where
  pub line : (0 < e.line) × (e.line < 2 ^ 32)
  pub unit : HasUnit e.unit e.what
  pub what : MaySay shape e.what

-- no type's name has a `/`, and no two are the same: so a grain is known by its text
abbrev pub HavePlainNames : List TypeShape → Type 0
HavePlainNames [] = ⊤
HavePlainNames (t ∷ types) =
    AllByRecursion (λ byte. byte ≢ 47) t.name × AllByRecursion (λ u. u.name ≢ t.name) types × HavePlainNames types

-- the lines of these entries, one after another
abbrev pub reply_lines : Shape → List Entry → List ℕ
reply_lines shape entries = flat_map (reply_line shape) entries

-- An output grew by the lines of these entries, and by a rest without a line feed, which is no entry.
pub record Grew (shape : Shape) (before now : List ℕ) (entries : List Entry) (rest : List ℕ) : Type 0 where
  pub output : now ≡ before ++ (reply_lines shape entries ++ rest)
  pub unended : AllByRecursion (λ byte. byte ≢ 10) rest
  pub proper : AllByRecursion (IsProper shape) entries
