-- What a program names, as far as a request line speaks of it.
use Rattle.std.specs.Prelude.{ℕ, ◌+◌, List, [], ◌∷◌, bytes_eq, if◌then◌else◌, length, map, Option, Some, None}
use Rattle.script_tree.specs.Programs.{MethodTree, TypeTree, ProgramTree}

-- a type: its name, and its methods in order, each by its name and number of parameters
pub record TypeNames : Type 0 where
  pub name : List ℕ
  pub methods : List (List ℕ × ℕ)

-- a method's name, and how many parameters it has
abbrev pub method_names : MethodTree → List ℕ × ℕ
method_names method = (method.name.text, length method.params)

-- the names of a type and of its methods
abbrev pub type_names : TypeTree → TypeNames
type_names of_type = record { name = of_type.name.text; methods = map method_names of_type.methods }

-- what a program names
abbrev pub names_in : ProgramTree → List TypeNames
names_in types = map type_names types

-- the first item with this name, and its number where the list is counted from `start`
abbrev pub named : {A : Type 0} → (A → List ℕ) → ℕ → List A → List ℕ → Option (ℕ × A)
named name_of start [] name = None
named name_of start (x ∷ xs) name = if bytes_eq name (name_of x) then Some (start, x) else named name_of (start + 1) xs name
