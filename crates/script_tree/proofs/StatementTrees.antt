-- The trees of the statements that the code holds.
use Rattle.std.proofs.Common.{◌≡◌, ℕ, Option, Some, None}
use Rattle.script_tree.specs.declared.expressions.Name.{Name}
use Rattle.script_tree.specs.declared.expressions.CallExpr.{CallExpr}
use Rattle.script_tree.specs.declared.expressions.Expr.{Expr}
use Rattle.script_tree.specs.declared.items.Items.{Items}
use Rattle.script_tree.specs.declared.statements.Source.{Source}
use Rattle.script_tree.specs.declared.statements.Stmt.{Stmt}
use Rattle.script_tree.specs.declared.statements.Stmt as stmt
use Rattle.script_tree.specs.declared.statements.Stmt.TheOpen as open_stmt
use Rattle.script_tree.specs.declared.statements.Stmt.TheFolds.{fold-roll-Stmt}
use Rattle.script_tree.specs.Exprs.{expr_tree, call_tree}
use Rattle.script_tree.specs.Stmts.{StmtTree, Bind, Rebind, SetField, Perform, Give, Choose, Repeat, Try, source_tree, block_tree, else_tree, stmt_step, stmt_tree, stmt_trees}

pub let_tree : (name : Name) (value : Source) → stmt_tree (stmt.Let name value) ≡ Bind name (source_tree value)
unfolding stmt.roll-Stmt denote.Hole.Carrier.roll
let_tree name value = fold-roll-Stmt StmtTree stmt_step (open_stmt.Let name value)

pub assign_tree : (name : Name) (value : Source) → stmt_tree (stmt.Assign name value) ≡ Rebind name (source_tree value)
unfolding stmt.roll-Stmt denote.Hole.Carrier.roll
assign_tree name value = fold-roll-Stmt StmtTree stmt_step (open_stmt.Assign name value)

pub set_tree : (name : Name) (value : Expr) → stmt_tree (stmt.Set name value) ≡ SetField name (expr_tree value)
unfolding stmt.roll-Stmt denote.Hole.Carrier.roll
set_tree name value = fold-roll-Stmt StmtTree stmt_step (open_stmt.Set name value)

pub call_statement_tree : (call : CallExpr) → stmt_tree (stmt.Call call) ≡ Perform (call_tree call)
unfolding stmt.roll-Stmt denote.Hole.Carrier.roll
call_statement_tree call = fold-roll-Stmt StmtTree stmt_step (open_stmt.Call call)

pub return_tree : (value : Expr) → stmt_tree (stmt.Return value) ≡ Give (expr_tree value)
unfolding stmt.roll-Stmt denote.Hole.Carrier.roll
return_tree value = fold-roll-Stmt StmtTree stmt_step (open_stmt.Return value)

pub if_tree : (test : Expr) (then_block : Items Stmt) (other : Option (Items Stmt)) →
    stmt_tree (stmt.If test then_block other) ≡ Choose (expr_tree test) (block_tree (stmt_trees then_block.list.items)) (else_tree other)
unfolding stmt.roll-Stmt denote.Hole.Carrier.roll
if_tree test then_block None = fold-roll-Stmt StmtTree stmt_step (open_stmt.If test then_block None)
if_tree test then_block (Some other) = fold-roll-Stmt StmtTree stmt_step (open_stmt.If test then_block (Some other))

pub while_tree : (test : Expr) (body : Items Stmt) → stmt_tree (stmt.While test body) ≡ Repeat (expr_tree test) (block_tree (stmt_trees body.list.items))
unfolding stmt.roll-Stmt denote.Hole.Carrier.roll
while_tree test body = fold-roll-Stmt StmtTree stmt_step (open_stmt.While test body)

pub attempt_tree : (at : ℕ) (name : Name) (call : CallExpr) (then_block other : Items Stmt) →
    stmt_tree (stmt.Attempt at name call then_block other) ≡ Try at name (call_tree call) (block_tree (stmt_trees then_block.list.items)) (block_tree (stmt_trees other.list.items))
unfolding stmt.roll-Stmt denote.Hole.Carrier.roll
attempt_tree at name call then_block other = fold-roll-Stmt StmtTree stmt_step (open_stmt.Attempt at name call then_block other)
