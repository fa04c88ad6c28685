-- The names of a tree in the order of the text: where something is declared, and where it is spoken of.
use Rattle.std.specs.Prelude.{◌<◌, List, [], ◌∷◌, ◌++◌}
use Rattle.std.specs.List.{All}
use Rattle.script_tree.specs.declared.expressions.Name.{Name}
use Rattle.script_tree.specs.declared.programs.FieldDecl.{FieldDecl}
use Rattle.script_tree.specs.Exprs.{ExprTree, Constant, Variable, TheKey, Prefixed, Joined, CallTree}
use Rattle.script_tree.specs.Stmts.{SourceTree, Computed, Called, StmtTree, BlockTree, ElseTree, Bind, Rebind, SetField, Perform, Choose, Repeat, Give, FailWith, Try, NoMore, Then, NoElse, Else}
use Rattle.script_tree.specs.Programs.{MethodTree, TypeTree, ProgramTree}

-- the names of an expression
unfoldable pub names_in_expression : ExprTree → List Name
names_in_expression (Constant value) = []
names_in_expression (Variable name) = name ∷ []
names_in_expression TheKey = []
names_in_expression (Prefixed op of) = names_in_expression of
names_in_expression (Joined op left right) = names_in_expression left ++ names_in_expression right

-- the names of the items of a list, one item after another
unfoldable pub names_in_each : {A : Type 0} → (A → List Name) → List A → List Name
names_in_each names [] = []
names_in_each names (first ∷ rest) = names first ++ names_in_each names rest

-- the names of a call: type, key, method, arguments
unfoldable pub names_in_call : CallTree → List Name
names_in_call call =
    (call.target ∷ []) ++ names_in_expression call.place ++ (call.method ∷ []) ++ names_in_each names_in_expression call.args

-- the names of what a local is given
unfoldable pub names_in_source : SourceTree → List Name
names_in_source (Computed value) = names_in_expression value
names_in_source (Called call) = names_in_call call

unfoldable mutual
  -- the names of a statement
  pub names_in_statement : StmtTree → List Name
  names_in_statement (Bind name value) = (name ∷ []) ++ names_in_source value
  names_in_statement (Rebind name value) = (name ∷ []) ++ names_in_source value
  names_in_statement (SetField name value) = (name ∷ []) ++ names_in_expression value
  names_in_statement (Perform call) = names_in_call call
  names_in_statement (Choose test block other) = names_in_expression test ++ names_in_block block ++ names_in_else other
  names_in_statement (Repeat test block) = names_in_expression test ++ names_in_block block
  names_in_statement (Give value) = names_in_expression value
  names_in_statement (FailWith text) = []
  names_in_statement (Try at name call block other) = (name ∷ []) ++ names_in_call call ++ names_in_block block ++ names_in_block other

  -- the names of a block
  pub names_in_block : BlockTree → List Name
  names_in_block NoMore = []
  names_in_block (Then first rest) = names_in_statement first ++ names_in_block rest

  -- the names of the second block of an `if`
  pub names_in_else : ElseTree → List Name
  names_in_else NoElse = []
  names_in_else (Else block) = names_in_block block

-- the name of a field, and of a parameter
abbrev pub names_in_field : FieldDecl → List Name
names_in_field field = field.name ∷ []

-- the one name of a parameter
abbrev pub names_in_parameter : Name → List Name
names_in_parameter name = name ∷ []

-- the names of a method: its own, its parameters', its body's
abbrev pub names_in_method : MethodTree → List Name
names_in_method method = (method.name ∷ []) ++ names_in_each names_in_parameter method.params ++ names_in_block method.body

-- the names of a type: its own, its fields', its methods'
abbrev pub names_in_type : TypeTree → List Name
names_in_type of_type =
    (of_type.name ∷ []) ++ names_in_each names_in_field of_type.fields ++ names_in_each names_in_method of_type.methods

-- the names of a program
unfoldable pub names_in_program : ProgramTree → List Name
names_in_program types = names_in_each names_in_type types

-- each of these names stands before all that follow it
abbrev pub AreInOrder : List Name → Type 0
AreInOrder [] = Unit {0}
AreInOrder (name ∷ names) = All (λ later. name.at < later.at) names × AreInOrder names
