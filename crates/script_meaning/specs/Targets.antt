-- Methods that are called, as the code holds them.
use Rattle.std.specs.Prelude.{ℕ, List, map, Option, slice_get}
use Rattle.script_tree.specs.declared.programs.TypeDecl.{TypeDecl}
use Rattle.script_tree.specs.Programs.{TypeTree, method_tree, type_tree}
use Rattle.script_meaning.specs.Calls.{Target}
use Rattle.script_meaning.specs.declared.targets.Target as code

-- the method that the code found
abbrev pub target_of : code.Target → Target
target_of target =
    record { of_type = type_tree target.of_type.now; number = target.number; method = method_tree target.method.now }

-- the type of this number
abbrev pub type_at : List TypeDecl → ℕ → Option TypeTree
type_at types kind = slice_get (map type_tree types) kind
