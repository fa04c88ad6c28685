-- What becomes of a state when the program is changed: fields go by their names.
use Rattle.std.specs.Prelude.{ℕ, List, [], ◌∷◌, map, bytes_eq, get_or, Option, Some, None, slice_get}
use Rattle.std.specs.List.{position}
use Rattle.base_types.specs.declared.calls.Value.{Value}
use Rattle.script_tree.specs.declared.programs.FieldDecl.{FieldDecl}
use Rattle.script_tree.specs.Programs.{TypeTree, ProgramTree}
use Rattle.script_check.specs.Shapes.{value_of}

-- the value at a place, the initial one where there is none
abbrev pub kept_at : Option ℕ → List Value → Value → Value
kept_at None values initial = initial
kept_at (Some place) values initial = get_or values place initial

-- the value of the old field of that name, else the new field's initial value
abbrev pub kept_value : List FieldDecl → List Value → FieldDecl → Value
kept_value fields values f = kept_at (position (λ g. bytes_eq g.name.text f.name.text) fields) values (value_of f.initial)

-- each field of the new type, in order
abbrev pub carried_fields : List FieldDecl → List FieldDecl → List Value → List Value
carried_fields olds news values = map (kept_value olds values) news

-- the fields of a type, none where the program hasn't it
abbrev pub type_fields : Option TypeTree → List FieldDecl
type_fields None = []
type_fields (Some of_type) = of_type.fields

-- the fields of the type of a number
abbrev pub fields_of_kind : ProgramTree → ℕ → List FieldDecl
fields_of_kind types kind = type_fields (slice_get types kind)

-- the initial values of fields
abbrev pub initials : List FieldDecl → List Value
initials fields = map (λ f. value_of f.initial) fields

-- a state of a type under the new program, where it has this one under the old
abbrev pub carried_state : ProgramTree → ProgramTree → ℕ → List Value → List Value
carried_state old new kind values = carried_fields (fields_of_kind old kind) (fields_of_kind new kind) values

-- a state of a type under the last of the programs, to each of which it is carried in turn
abbrev pub carried_along : ProgramTree → List ProgramTree → ℕ → List Value → List Value
carried_along first [] kind values = values
carried_along first (next ∷ later) kind values = carried_along next later kind (carried_state first next kind values)
