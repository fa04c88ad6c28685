-- The shape of a program.
use Rattle.std.specs.Prelude.{◌≤◌, ℕ, List, [], map, length, unwrap_or}
use Rattle.std.specs.List.{All}
use Rattle.base_types.specs.declared.calls.Value.{Value}
use Rattle.base_types.specs.declared.calls.Value.TheVariants.{Int, Text}
use Rattle.base_types.specs.declared.shapes.TypeShape.{TypeShape}
use Rattle.base_types.specs.Texts.{short_text}
use Rattle.script_tree.specs.declared.expressions.Literal.{Literal}
use Rattle.script_tree.specs.declared.expressions.Literal.TheVariants as literal
use Rattle.script_tree.specs.declared.programs.TypeDecl.{TypeDecl}
use Rattle.script_tree.specs.Programs.{TypeTree, ProgramTree}

-- a name or a text of a program, none of which has more than 4,096 bytes; a longer one, which no text of a
-- program gives, counts as empty
abbrev pub fitted : List ℕ → List ℕ
fitted text = unwrap_or (short_text text) []

-- the value that a field begins with
abbrev pub value_of : Literal → Value
value_of (literal.Int number) = Int number
value_of (literal.Chars text) = Text (fitted text)

-- a type's name, its fields' initial values, and how many parameters each method has
abbrev pub type_shape : TypeTree → TypeShape
type_shape of_type = record { name = fitted of_type.name.text; initial = map (λ f. value_of f.initial) of_type.fields; params = map (λ m. length m.params) of_type.methods }

-- the types in the order of the text
abbrev pub type_shapes : ProgramTree → List TypeShape
type_shapes types = map type_shape types

-- a type that has a shape: a state has at most 64 values, and a method at most 8 parameters
pub record IsSmall (of_type : TypeDecl) : Type 0 where
  pub fields : length of_type.fields.list.items ≤ 64
  pub params : All (λ m. length m.params.list.items ≤ 8) of_type.methods.list.items
