-- Methods, types and programs, without where they lie in memory.
use Rattle.std.specs.Prelude.{ℕ, List, map}
use Rattle.script_tree.specs.declared.expressions.Name.{Name}
use Rattle.script_tree.specs.declared.options.TxnOption.{TxnOption}
use Rattle.script_tree.specs.declared.options.MethodKind.{MethodKind}
use Rattle.script_tree.specs.declared.programs.FieldDecl.{FieldDecl}
use Rattle.script_tree.specs.declared.programs.Method.{Method}
use Rattle.script_tree.specs.declared.programs.TypeDecl.{TypeDecl}
use Rattle.script_tree.specs.declared.programs.Program.{Program}
use Rattle.script_tree.specs.Stmts.{BlockTree, block_tree, stmt_trees}

-- a method, with the place of its option's word
pub record MethodTree : Type 0 where
  pub name : Name
  pub params : List Name
  pub option : TxnOption
  pub option_at : ℕ
  pub kind : MethodKind
  pub body : BlockTree

-- the method that the code holds
abbrev pub method_tree : Method → MethodTree
method_tree method = record { name = method.name; params = method.params.list.items; option = method.option; option_at = method.option_at; kind = method.kind; body = block_tree (stmt_trees method.body.list.items) }

-- a type
pub record TypeTree : Type 0 where
  pub name : Name
  pub fields : List FieldDecl
  pub methods : List MethodTree

-- the type that the code holds
abbrev pub type_tree : TypeDecl → TypeTree
type_tree of_type = record { name = of_type.name; fields = of_type.fields.list.items; methods = map method_tree of_type.methods.list.items }

-- a program: its types in the order of the text
abbrev pub ProgramTree : Type 0
ProgramTree = List TypeTree

-- the program that the code holds
abbrev pub program_tree : Program → ProgramTree
program_tree program = map type_tree program.types.list.items
