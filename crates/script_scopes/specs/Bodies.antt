-- Which bodies of methods are right.
use Rattle.std.specs.Prelude.{◌≡◌, ◌≢◌, ◌⊎◌, length, Some}
use Rattle.std.specs.List.{All, Contains}
use Rattle.script_tree.specs.declared.expressions.Name.{Name}
use Rattle.script_tree.specs.declared.options.MethodKind.TheVariants.{Update, Plain}
use Rattle.script_tree.specs.Exprs.{ExprTree, Constant, Variable, TheKey, Prefixed, Joined, CallTree}
use Rattle.script_tree.specs.Stmts.{SourceTree, Computed, Called, StmtTree, BlockTree, ElseTree, Bind, Rebind, SetField, Perform, Choose, Repeat, Give, FailWith, Try, NoMore, Then, NoElse, Else}
use Rattle.script_tree.specs.Programs.{MethodTree, TypeTree}
use Rattle.script_scopes.specs.Names.{Scope, Setting}
use Rattle.script_scopes.specs.Expressions.{type_named, method_named}
use Rattle.script_scopes.specs.Statements.{with_name, scope_after}

-- a name in an expression: a local or parameter in scope, or a field, in a method that may read it
abbrev pub IsVariable : Setting → Scope → Name → Type 0
IsVariable setting scope name = Contains scope name.text ⊎ (Contains setting.fields name.text × (setting.kind ≢ Plain))

-- a local's name: no field's, and no local's or parameter's in scope
abbrev pub IsNewLocal : Setting → Scope → Name → Type 0
IsNewLocal setting scope name = (¬ Contains setting.fields name.text) × (¬ Contains scope name.text)

-- an expression each of whose names stands for a value
unfoldable pub IsExpressionInScope : Setting → Scope → ExprTree → Type 0
IsExpressionInScope setting scope (Constant value) = Unit {0}
IsExpressionInScope setting scope (Variable name) = IsVariable setting scope name
IsExpressionInScope setting scope TheKey = Unit {0}
IsExpressionInScope setting scope (Prefixed op of) = IsExpressionInScope setting scope of
IsExpressionInScope setting scope (Joined op left right) = IsExpressionInScope setting scope left × IsExpressionInScope setting scope right

-- a call of a method that is there, with as many arguments as parameters
pub record IsCallInScope (setting : Setting) (scope : Scope) (call : CallTree) : Type 0 where
  pub target : TypeTree
  pub is_target : type_named setting.types call.target.text ≡ Some target
  pub method : MethodTree
  pub is_method : method_named target.methods call.method.text ≡ Some method
  pub arity : length call.args ≡ length method.params
  pub place : IsExpressionInScope setting scope call.place
  pub args : All (IsExpressionInScope setting scope) call.args

-- what a local is given
unfoldable pub IsSourceInScope : Setting → Scope → SourceTree → Type 0
IsSourceInScope setting scope (Computed value) = IsExpressionInScope setting scope value
IsSourceInScope setting scope (Called call) = IsCallInScope setting scope call

unfoldable mutual
  -- a statement, with these parameters and locals in scope
  pub IsStatementInScope : Setting → Scope → StmtTree → Type 0
  IsStatementInScope setting scope (Bind name value) = IsNewLocal setting scope name × IsSourceInScope setting scope value
  IsStatementInScope setting scope (Rebind name value) = Contains scope name.text × IsSourceInScope setting scope value
  IsStatementInScope setting scope (SetField name value) = (Contains setting.fields name.text × (setting.kind ≡ Update)) × IsExpressionInScope setting scope value
  IsStatementInScope setting scope (Perform call) = IsCallInScope setting scope call
  IsStatementInScope setting scope (Choose test block other) = (IsExpressionInScope setting scope test × IsBlockInScope setting scope block) × IsElseInScope setting scope other
  IsStatementInScope setting scope (Repeat test block) = IsExpressionInScope setting scope test × IsBlockInScope setting scope block
  IsStatementInScope setting scope (Give value) = IsExpressionInScope setting scope value
  IsStatementInScope setting scope (FailWith text) = Unit {0}
  IsStatementInScope setting scope (Try at name call block other) =
      ((IsNewLocal setting scope name × IsCallInScope setting scope call) × IsBlockInScope setting (with_name scope name) block) × IsBlockInScope setting (with_name scope name) other

  -- a block: each statement with the names that stand behind the one before it
  pub IsBlockInScope : Setting → Scope → BlockTree → Type 0
  IsBlockInScope setting scope NoMore = Unit {0}
  IsBlockInScope setting scope (Then first rest) = IsStatementInScope setting scope first × IsBlockInScope setting (scope_after scope first) rest

  -- the second block of an `if`
  pub IsElseInScope : Setting → Scope → ElseTree → Type 0
  IsElseInScope setting scope NoElse = Unit {0}
  IsElseInScope setting scope (Else block) = IsBlockInScope setting scope block
