-- Expressions and calls, without where they lie in memory.
use Rattle.std.specs.Prelude.{List, map}
use Rattle.script_tree.specs.declared.expressions.Name.{Name}
use Rattle.script_tree.specs.declared.expressions.Literal.{Literal}
use Rattle.script_tree.specs.declared.expressions.UnaryOp.{UnaryOp}
use Rattle.script_tree.specs.declared.expressions.BinaryOp.{BinaryOp}
use Rattle.script_tree.specs.declared.expressions.CallExpr.{CallExpr}
use Rattle.script_tree.specs.declared.expressions.Expr.{Expr, Unary', Binary'}
use Rattle.script_tree.specs.declared.expressions.Expr.TheVariants as expr

-- an expression: a number or text, a name, the grain's key, or an operator with its operands
pub data ExprTree : Type 0 where
  Constant : Literal → ExprTree
  Variable : Name → ExprTree
  TheKey : ExprTree
  Prefixed : UnaryOp → ExprTree → ExprTree
  Joined : BinaryOp → ExprTree → ExprTree → ExprTree

-- the expression that the code holds
abbrev pub expr_tree : Expr → ExprTree
expr_tree (expr.Literal value) = Constant value
expr_tree (expr.Name name) = Variable name
expr_tree expr.Key = TheKey
expr_tree (Unary' op p of) = Prefixed op (expr_tree of)
expr_tree (Binary' op p left q right) = Joined op (expr_tree left) (expr_tree right)

-- a call of a method on the grain of a type at a place
pub record CallTree : Type 0 where
  pub target : Name
  pub place : ExprTree
  pub method : Name
  pub args : List ExprTree

-- the call that the code holds
abbrev pub call_tree : CallExpr → CallTree
call_tree call = record { target = call.target; place = expr_tree call.place; method = call.method; args = map expr_tree call.args.list.items }
