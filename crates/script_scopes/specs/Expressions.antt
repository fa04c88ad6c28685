-- What is at fault in an expression and in a call.
use Rattle.std.specs.Prelude.{ℕ, List, [], ◌∷◌, length, nat_eq, bytes_eq, if◌then◌else◌, Option, Some, None}
use Rattle.std.specs.List.{find}
use Rattle.script_tree.specs.Exprs.{ExprTree, Constant, Variable, TheKey, Prefixed, Joined, CallTree}
use Rattle.script_tree.specs.Programs.{ProgramTree, TypeTree, MethodTree}
use Rattle.script_scopes.specs.declared.faults.CheckFault.TheVariants.{UnknownName, Arity}
use Rattle.script_scopes.specs.FirstFaults.{FirstFault, ◌<|>◌}
use Rattle.script_scopes.specs.Names.{Scope, Setting, variable_fault}

-- an expression
unfoldable pub expression_fault : Setting → Scope → ExprTree → FirstFault
expression_fault setting scope (Constant value) = None
expression_fault setting scope (Variable name) = variable_fault setting scope name
expression_fault setting scope TheKey = None
expression_fault setting scope (Prefixed op of) = expression_fault setting scope of
expression_fault setting scope (Joined op left right) = expression_fault setting scope left <|> expression_fault setting scope right

-- the arguments of a call, from left to right
unfoldable pub arguments_fault : Setting → Scope → List ExprTree → FirstFault
arguments_fault setting scope [] = None
arguments_fault setting scope (first ∷ rest) = expression_fault setting scope first <|> arguments_fault setting scope rest

-- the type of this name, the first where there are two
abbrev pub type_named : ProgramTree → List ℕ → Option TypeTree
type_named types name = find (λ t. bytes_eq t.name.text name) types

-- the method of this name, the first where there are two
abbrev pub method_named : List MethodTree → List ℕ → Option MethodTree
method_named methods name = find (λ m. bytes_eq m.name.text name) methods

-- the method of a call: it is there, and has as many parameters as the call has arguments
abbrev pub arity_fault : CallTree → Option MethodTree → FirstFault
arity_fault call None = Some (UnknownName call.method.at)
arity_fault call (Some method) = if nat_eq (length call.args) (length method.params) then None else Some (Arity call.method.at)

-- a call of a method of this type: the type's name, the place, the method's name, the arguments
abbrev pub target_fault : Setting → Scope → CallTree → Option TypeTree → FirstFault
target_fault setting scope call None = Some (UnknownName call.target.at)
target_fault setting scope call (Some target) =
    expression_fault setting scope call.place <|> arity_fault call (method_named target.methods call.method.text) <|> arguments_fault setting scope call.args

-- a call
unfoldable pub call_fault : Setting → Scope → CallTree → FirstFault
call_fault setting scope call = target_fault setting scope call (type_named setting.types call.target.text)
