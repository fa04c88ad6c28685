-- Records of a log under the program's shape.
use Rattle.std.specs.Prelude.{◌≡◌, true, ℕ, ◌<◌, length, Option, Some, None, slice_get}
use Rattle.std.specs.List.{AllByRecursion}
use Rattle.base_types.specs.declared.calls.Call.{Call}
use Rattle.base_types.specs.declared.shapes.Shape.{Shape}
use Rattle.base_types.specs.declared.shapes.TypeShape.{TypeShape}
use Rattle.field_codec.specs.declared.formats.Format.{Format}
use Rattle.field_codec.specs.declared.units.Numbers.{Numbers}
use Rattle.field_codec.specs.Units.{may_be_unit, HasParent}
use Rattle.commit_log.specs.declared.records.CommitRecord.{CommitRecord}
use Rattle.commit_log.specs.Spelling.{RecordFits}

-- the number of parameters of a type's method, none where there is no such method
abbrev pub params_of : Option TypeShape → ℕ → Option ℕ
params_of None method = None
params_of (Some type) method = slice_get type.params method

-- the number of parameters of a type's method in a shape, none where there is no such method
abbrev pub params_in : Shape → ℕ → ℕ → Option ℕ
params_in shape kind method = params_of (slice_get shape.types kind) method

-- the program has this type
abbrev pub IsShapeType : Shape → ℕ → Type 0
IsShapeType shape kind = kind < length shape.types

-- the program's method of this type and number has as many parameters as the call has arguments
abbrev pub IsCallIn : Shape → Call → Type 0
IsCallIn shape call = IsShapeType shape call.grain.kind × (params_in shape call.grain.kind call.method ≡ Some (length call.args))

-- the unit's number, and its parent's where it has one, are ones that are taken
pub record HasNumbers (numbers : Numbers) (r : CommitRecord) : Type 0 where
  pub unit : may_be_unit numbers r.unit.0 ≡ true
  pub parent : HasParent numbers r.origin

-- the record is within the limits of the format, its types, its method and its number of arguments are the program's, and the units'
-- numbers ones that are taken
pub record IsRecordIn (format : Format) (numbers : Numbers) (shape : Shape) (r : CommitRecord) : Type 0 where
  pub fits : RecordFits format r
  pub units : HasNumbers numbers r
  pub call : IsCallIn shape r.call
  pub writes : AllByRecursion (λ write. IsShapeType shape write.grain.kind) r.writes
