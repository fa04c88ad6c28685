-- What a unit to commit is, by the program and by the formats.
use Rattle.std.specs.Prelude.{◌≡◌, ◌≤◌, true, length}
use Rattle.std.specs.List.{AllByRecursion}
use Rattle.base_types.specs.declared.shapes.Shape.{Shape}
use Rattle.core_model.specs.CoreState.{Write}
use Rattle.core_model.specs.declared.effects.Effect.{Effect}
use Rattle.field_codec.specs.Units.{may_be_unit, HasParent}
use Rattle.field_codec.specs.declared.units.Numbers.TheVariants.{Logged}
use Rattle.commit_log.specs.Bodies.{IsCallIn, IsShapeType}
use Rattle.commit_log.specs.EncodableRecords.{IsNoAbort}
use Rattle.script_meaning.specs.Play.{is_below}
use Rattle.std.specs.Prelude.{IsTrue}
use Rattle.std.specs.List.{AllPairs}
use Rattle.script_check.specs.Shapes.{type_shapes}
use Rattle.script_tree.specs.Programs.{ProgramTree}

-- the shape of a program with these types
abbrev pub shape_with : ProgramTree → Shape
shape_with types = record { types = type_shapes types }

-- The unit's number and its parent's may be logged; its call, and each grain that it wrote, are of the program's types.
pub record FitsProgram (types : ProgramTree) (e : Effect) : Type 0 where
  pub unit : may_be_unit Logged e.unit.0 ≡ true
  pub parent : HasParent Logged e.origin
  pub call : IsCallIn (shape_with types) e.call
  pub writes : AllByRecursion (λ (x : Write). IsShapeType (shape_with types) x.0.kind) e.writes

-- At most 8 arguments, 64 answers and 64 writes, ascending by grains, and a result that is no abort.
pub record FitsFormat (e : Effect) : Type 0 where
  pub args : length e.call.args ≤ 8
  pub answers : length e.answers ≤ 64
  pub result : IsNoAbort e.result
  pub few : length e.writes ≤ 64
  pub ascending : AllPairs (λ (one other : Write). IsTrue (is_below one.0 other.0)) e.writes
