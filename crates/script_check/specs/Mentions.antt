-- The names of a program in the order of the text, each with what is at fault at it.
use Rattle.std.specs.Prelude.{◌≡◌, ◌≢◌, ◌≤◌, ℕ, List, [], ◌∷◌, ◌++◌, map, Option, Some, None}
use Rattle.std.specs.List.{All}
use Rattle.script_tree.specs.declared.expressions.Name.{Name}
use Rattle.script_tree.specs.declared.programs.FieldDecl.{FieldDecl}
use Rattle.script_tree.specs.Exprs.{ExprTree, Constant, Variable, TheKey, Prefixed, Joined, CallTree}
use Rattle.script_tree.specs.Stmts.{SourceTree, Computed, Called, StmtTree, BlockTree, ElseTree, Bind, Rebind, SetField, Perform, Choose, Repeat, Give, FailWith, Try, NoMore, Then, NoElse, Else}
use Rattle.script_tree.specs.Programs.{MethodTree, TypeTree, ProgramTree}
use Rattle.script_scopes.specs.declared.faults.CheckFault.{CheckFault}
use Rattle.script_scopes.specs.declared.faults.CheckFault.TheVariants.{UnknownName, TwiceNamed, Arity, FieldInPlain, SetInRead, TooMany, NeedsTransaction, Memory}
use Rattle.script_scopes.specs.FirstFaults.{FirstFault, ◌<|>◌}
use Rattle.script_scopes.specs.Names.{Scope, Setting, local_fault, variable_fault, assigned_fault, set_fault}
use Rattle.script_scopes.specs.Expressions.{type_named, method_named, arity_fault}
use Rattle.script_scopes.specs.Statements.{with_name, scope_after}
use Rattle.script_check.specs.Programs.{declared_fault, transaction_fault, field_fault, parameter_fault, field_names}

-- a name in the text, and what is at fault at it
pub record Mention : Type 0 where
  pub name : Name
  pub fault : FirstFault

-- one name
abbrev pub at_name : Name → FirstFault → List Mention
at_name name fault = (record { name = name; fault = fault }) ∷ []

-- the names of an expression
unfoldable pub expression_names : Setting → Scope → ExprTree → List Mention
expression_names setting scope (Constant value) = []
expression_names setting scope (Variable name) = at_name name (variable_fault setting scope name)
expression_names setting scope TheKey = []
expression_names setting scope (Prefixed op of) = expression_names setting scope of
expression_names setting scope (Joined op left right) = expression_names setting scope left ++ expression_names setting scope right

-- the names of a call's arguments
unfoldable pub argument_names : Setting → Scope → List ExprTree → List Mention
argument_names setting scope [] = []
argument_names setting scope (first ∷ rest) = expression_names setting scope first ++ argument_names setting scope rest

-- the type of a call is there
abbrev pub type_known : Name → Option TypeTree → FirstFault
type_known name None = Some (UnknownName name.at)
type_known name (Some target) = None

-- the methods of a call's type
abbrev pub methods_of : Option TypeTree → List MethodTree
methods_of None = []
methods_of (Some target) = target.methods

-- the names of a call of a method of this type
abbrev pub target_names : Setting → Scope → CallTree → Option TypeTree → List Mention
target_names setting scope call target =
    at_name call.target (type_known call.target target)
    ++ expression_names setting scope call.place
    ++ at_name call.method (arity_fault call (method_named (methods_of target) call.method.text))
    ++ argument_names setting scope call.args

-- the names of a call
unfoldable pub call_names : Setting → Scope → CallTree → List Mention
call_names setting scope call = target_names setting scope call (type_named setting.types call.target.text)

-- the names of what a local is given
unfoldable pub source_names : Setting → Scope → SourceTree → List Mention
source_names setting scope (Computed value) = expression_names setting scope value
source_names setting scope (Called call) = call_names setting scope call

unfoldable mutual
  -- the names of a statement
  pub statement_names : Setting → Scope → StmtTree → List Mention
  statement_names setting scope (Bind name value) = at_name name (local_fault setting scope name) ++ source_names setting scope value
  statement_names setting scope (Rebind name value) = at_name name (assigned_fault scope name) ++ source_names setting scope value
  statement_names setting scope (SetField name value) = at_name name (set_fault setting name) ++ expression_names setting scope value
  statement_names setting scope (Perform call) = call_names setting scope call
  statement_names setting scope (Choose test block other) = expression_names setting scope test ++ block_names setting scope block ++ else_names setting scope other
  statement_names setting scope (Repeat test block) = expression_names setting scope test ++ block_names setting scope block
  statement_names setting scope (Give value) = expression_names setting scope value
  statement_names setting scope (FailWith text) = []
  statement_names setting scope (Try at name call block other) =
      at_name name (local_fault setting scope name) ++ call_names setting scope call ++ block_names setting (with_name scope name) block ++ block_names setting (with_name scope name) other

  -- the names of a block
  pub block_names : Setting → Scope → BlockTree → List Mention
  block_names setting scope NoMore = []
  block_names setting scope (Then first rest) = statement_names setting scope first ++ block_names setting (scope_after scope first) rest

  -- the names of the second block of an `if`
  pub else_names : Setting → Scope → ElseTree → List Mention
  else_names setting scope NoElse = []
  else_names setting scope (Else block) = block_names setting scope block

-- the names of the items of a list, each item with the names of those before it
unfoldable pub each_names : {A : Type 0} → (A → Name) → (Scope → A → List Mention) → Scope → List A → List Mention
each_names name_of names before [] = []
each_names name_of names before (first ∷ rest) = names before first ++ each_names name_of names (before ++ ((name_of first).text ∷ [])) rest

-- the name of a field, and of a parameter
abbrev pub field_mention : Scope → FieldDecl → List Mention
field_mention before field = at_name field.name (field_fault before field)

-- a parameter's name is mentioned, with its fault if it has one
abbrev pub parameter_mention : Scope → Scope → Name → List Mention
parameter_mention fields before name = at_name name (parameter_fault fields before name)

-- the names of a method of a type with these fields
abbrev pub method_mentions : ProgramTree → Scope → Scope → MethodTree → List Mention
method_mentions types fields before method =
    at_name method.name (declared_fault 64 before method.name <|> transaction_fault method.kind method.option method.name.at)
    ++ each_names (λ n. n) (parameter_mention fields) [] method.params
    ++ block_names (record { types = types; fields = fields; kind = method.kind }) (map (λ n. n.text) method.params) method.body

-- the names of a type
abbrev pub type_mentions : ProgramTree → Scope → TypeTree → List Mention
type_mentions types before of_type =
    at_name of_type.name (declared_fault 64 before of_type.name)
    ++ each_names (λ f. f.name) field_mention [] of_type.fields
    ++ each_names (λ m. m.name) (method_mentions types (field_names of_type.fields)) [] of_type.methods

-- the names of a program
unfoldable pub program_names : ProgramTree → List Mention
program_names types = each_names (λ t. t.name) (type_mentions types) [] types

-- the place that a fault names, 0 for want of memory
abbrev pub check_fault_place : CheckFault → ℕ
check_fault_place (UnknownName at) = at
check_fault_place (TwiceNamed at) = at
check_fault_place (Arity at) = at
check_fault_place (FieldInPlain at) = at
check_fault_place (SetInRead at) = at
check_fault_place (TooMany at) = at
check_fault_place (NeedsTransaction at) = at
check_fault_place Memory = 0

-- a fault is the first: it is at a name of the program, whose place it has, and none is at a name before it
pub record IsFirstFault (types : ProgramTree) (fault : CheckFault) : Type 0 where
  pub before : List Mention
  pub here : Mention
  pub after : List Mention
  pub are : program_names types ≡ before ++ (here ∷ after)
  pub right_before : All (λ m. m.fault ≡ None) before
  pub is_here : here.fault ≡ Some fault
  pub place : check_fault_place fault ≡ here.name.at

-- no name that is at fault stands at a lower place than the one that a fault names
abbrev pub IsLeastPlace : ProgramTree → CheckFault → Type 0
IsLeastPlace types fault = All (λ m. m.fault ≢ None → check_fault_place fault ≤ m.name.at) (program_names types)
