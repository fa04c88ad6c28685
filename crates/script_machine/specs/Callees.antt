-- The methods that are called, as the code holds them.
use Rattle.std.specs.Prelude.{◌≡◌, ◌≤◌, ℕ, length, Bool, Some, slice_get}
use Rattle.script_tree.specs.declared.options.MethodKind.{MethodKind}
use Rattle.script_tree.specs.Programs.{ProgramTree, TypeTree, method_tree, type_tree}
use Rattle.script_meaning.specs.Calls.{Target, numbered}
use Rattle.script_machine.specs.declared.frames.Post.{Post}
use Rattle.script_machine.specs.declared.callees.Callee.{Callee}

-- the method that the code holds
abbrev pub target_of : Callee → Target
target_of callee = record { of_type = type_tree callee.of_type.now; number = callee.number; method = method_tree callee.method.now }

-- the type and the method are those of their numbers
pub record IsThere (types : ProgramTree) (callee : Callee) : Type 0 where
  pub of_type : slice_get types callee.grain.kind ≡ Some (type_tree callee.of_type.now)
  pub target : numbered (slice_get types callee.grain.kind) callee.number ≡ Some (target_of callee)

-- where a frame of the method runs
abbrev pub post_of : Callee → MethodKind → Bool → ℕ → Post
post_of callee kind context depth = record { grain = callee.grain; method = callee.number; kind = kind; context = context; depth = depth }

-- the fields fit a state, and the methods' numbers 16 bits
pub record IsFew (of_type : TypeTree) : Type 0 where
  pub fields : length of_type.fields ≤ 64
  pub methods : length of_type.methods ≤ 64
