-- Statements, without where they lie in memory.
use Rattle.std.specs.Prelude.{ℕ, List, [], ◌∷◌, map, Option, Some, None}
use Rattle.script_tree.specs.declared.expressions.Name.{Name}
use Rattle.script_tree.specs.declared.items.Items.{Items}
use Rattle.script_tree.specs.declared.statements.Source.{Source}
use Rattle.script_tree.specs.declared.statements.Source.TheVariants as source
use Rattle.script_tree.specs.declared.statements.Stmt.{Stmt}
use Rattle.script_tree.specs.declared.statements.Stmt.TheOpen.{Stmt-F}
use Rattle.script_tree.specs.declared.statements.Stmt.TheOpen as open_stmt
use Rattle.script_tree.specs.declared.statements.Stmt.TheFolds.{fold-Stmt}
use Rattle.script_tree.specs.Exprs.{ExprTree, expr_tree, CallTree, call_tree}

-- what a local is given: an expression's value, or what a call answers
pub data SourceTree : Type 0 where
  Computed : ExprTree → SourceTree
  Called : CallTree → SourceTree

-- the source that the code holds
abbrev pub source_tree : Source → SourceTree
source_tree (source.Expr value) = Computed (expr_tree value)
source_tree (source.Call call) = Called (call_tree call)

mutual
  -- a statement: let, assignment, set, call, if, while, return, fail, attempt
  pub data StmtTree : Type 0 where
    Bind : Name → SourceTree → StmtTree
    Rebind : Name → SourceTree → StmtTree
    SetField : Name → ExprTree → StmtTree
    Perform : CallTree → StmtTree
    Choose : ExprTree → BlockTree → ElseTree → StmtTree
    Repeat : ExprTree → BlockTree → StmtTree
    Give : ExprTree → StmtTree
    FailWith : List ℕ → StmtTree
    Try : ℕ → Name → CallTree → BlockTree → BlockTree → StmtTree

  -- a block's statements in order
  pub data BlockTree : Type 0 where
    NoMore : BlockTree
    Then : StmtTree → BlockTree → BlockTree

  -- the second block of an if, which may be left out
  pub data ElseTree : Type 0 where
    NoElse : ElseTree
    Else : BlockTree → ElseTree

-- a block of these statements
abbrev pub block_tree : List StmtTree → BlockTree
block_tree [] = NoMore
block_tree (first ∷ rest) = Then first (block_tree rest)

-- a second block of these statements, where it is there
abbrev pub else_of : Option (Items StmtTree) → ElseTree
else_of None = NoElse
else_of (Some other) = Else (block_tree other.list.items)

-- a statement over blocks that are seen already
abbrev pub stmt_step : Stmt-F StmtTree → StmtTree
stmt_step (open_stmt.Let name value) = Bind name (source_tree value)
stmt_step (open_stmt.Assign name value) = Rebind name (source_tree value)
stmt_step (open_stmt.Set name value) = SetField name (expr_tree value)
stmt_step (open_stmt.Call call) = Perform (call_tree call)
stmt_step (open_stmt.If test then_block other) = Choose (expr_tree test) (block_tree then_block.list.items) (else_of other)
stmt_step (open_stmt.While test body) = Repeat (expr_tree test) (block_tree body.list.items)
stmt_step (open_stmt.Return value) = Give (expr_tree value)
stmt_step (open_stmt.Fail text) = FailWith text
stmt_step (open_stmt.Attempt at name call then_block other) = Try at name (call_tree call) (block_tree then_block.list.items) (block_tree other.list.items)

-- the statement that the code holds
abbrev pub stmt_tree : Stmt → StmtTree
stmt_tree = fold-Stmt StmtTree stmt_step

-- the statements that the code holds
abbrev pub stmt_trees : List Stmt → List StmtTree
stmt_trees stmts = map stmt_tree stmts

-- the second block that the code holds
abbrev pub else_tree : Option (Items Stmt) → ElseTree
else_tree None = NoElse
else_tree (Some other) = Else (block_tree (stmt_trees other.list.items))
