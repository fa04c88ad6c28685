-- Statements and arguments one after another.
use Rattle.std.proofs.Common.{◌≡◌, ℕ, List, [], ◌∷◌, ◌++◌, None, refl, sym, ap, ◌∙◌, append_assoc}
use Rattle.std.proofs.lemmas.List.{append-nil}
use Rattle.script_tree.specs.declared.expressions.Name.{Name}
use Rattle.script_tree.specs.declared.expressions.CallExpr.{CallExpr}
use Rattle.script_tree.specs.declared.items.Items.{Items}
use Rattle.script_tree.specs.declared.statements.Stmt.{Stmt}
use Rattle.script_tree.specs.declared.statements.Stmt as stmt
use Rattle.script_tree.specs.declared.statements.Stmt.TheOpen as open_stmt
use Rattle.script_tree.specs.declared.statements.Stmt.TheFolds.{fold-roll-Stmt}
use Rattle.script_tree.specs.Exprs.{ExprTree, CallTree, call_tree}
use Rattle.script_tree.specs.Stmts.{StmtTree, BlockTree, Bind, Rebind, SetField, Perform, Choose, Repeat, Give, FailWith, Try, block_tree, stmt_step, stmt_tree, stmt_trees}
use Rattle.script_scopes.specs.declared.faults.CheckFault.{CheckFault}
use Rattle.script_scopes.specs.FirstFaults.{◌<|>◌, Fails}
use Rattle.script_scopes.specs.Names.{Scope, Setting, local_fault}
use Rattle.script_scopes.specs.Expressions.{expression_fault, arguments_fault, call_fault}
use Rattle.script_scopes.specs.Statements.{with_name, scope_after, statement_fault, block_fault}
use Rattle.script_scopes.proofs.Founds.{fails_first, fails_is, goes_on}

-- arguments from an index on
pub argument_step : (setting : Setting) (scope : Scope) (first : ExprTree) (rest all : List ExprTree) → all ≡ first ∷ rest → arguments_fault setting scope all ≡ (expression_fault setting scope first <|> arguments_fault setting scope rest)
unfolding arguments_fault
argument_step setting scope first rest all e = ap (arguments_fault setting scope) e

pub arguments_end : (setting : Setting) (scope : Scope) (all : List ExprTree) → all ≡ [] → arguments_fault setting scope all ≡ None
unfolding arguments_fault
arguments_end setting scope all e = ap (arguments_fault setting scope) e

-- a statement only adds to the names in scope
pub grows : (scope : Scope) (s : StmtTree) → (more : Scope) × (scope_after scope s ≡ scope ++ more)
grows scope (Bind name value) = (name.text ∷ [], refl)
grows scope (Rebind name value) = ([], sym (append-nil scope))
grows scope (SetField name value) = ([], sym (append-nil scope))
grows scope (Perform call) = ([], sym (append-nil scope))
grows scope (Choose test block other) = ([], sym (append-nil scope))
grows scope (Repeat test block) = ([], sym (append-nil scope))
grows scope (Give value) = ([], sym (append-nil scope))
grows scope (FailWith text) = ([], sym (append-nil scope))
grows scope (Try at name call block other) = ([], sym (append-nil scope))

-- a block whose first statements are right, with the names in scope behind them
pub record HasChecked (setting : Setting) (scope first : Scope) (rest all : List StmtTree) : Type 0 where
  pub so_far : block_fault setting scope (block_tree rest) ≡ block_fault setting first (block_tree all)
  pub added : Scope
  pub grown : scope ≡ first ++ added

-- one more statement is right
pub goes_further : (setting : Setting) (scope first next : Scope) (s : StmtTree) (rest all : List StmtTree) → statement_fault setting scope s ≡ None → next ≡ scope_after scope s → HasChecked setting scope first (s ∷ rest) all → HasChecked setting next first rest all
unfolding block_fault
goes_further setting scope first next s rest all e n h =
    let g = grows scope s in
    let step : block_fault setting scope (block_tree (s ∷ rest)) ≡ block_fault setting (scope_after scope s) (block_tree rest) = goes_on (statement_fault setting scope s) (block_fault setting (scope_after scope s) (block_tree rest)) e in
    record { so_far = ap (λ (l : Scope). block_fault setting l (block_tree rest)) n ∙ sym step ∙ h.so_far; added = h.added ++ g.0; grown = n ∙ g.1 ∙ ap (λ (l : Scope). l ++ g.0) h.grown ∙ append_assoc first h.added g.0 }

-- the next statement is at fault
pub fails_here : (e : CheckFault) (setting : Setting) (scope first : Scope) (s : StmtTree) (rest all : List StmtTree) → Fails e (statement_fault setting scope s) → HasChecked setting scope first (s ∷ rest) all → Fails e (block_fault setting first (block_tree all))
unfolding block_fault
fails_here e setting scope first s rest all f h = fails_is e _ _ h.so_far (fails_first e (statement_fault setting scope s) _ f)

pub ends : (setting : Setting) (scope : Scope) → block_fault setting scope (block_tree []) ≡ None
unfolding block_fault
ends setting scope = refl

-- an `attempt` all of whose parts are right
pub attempt_done : (setting : Setting) (scope under : Scope) (at : ℕ) (name : Name) (call : CallTree) (block other : BlockTree) → under ≡ with_name scope name → (local_fault setting scope name <|> call_fault setting scope call) ≡ None → block_fault setting under block ≡ None → block_fault setting under other ≡ None → statement_fault setting scope (Try at name call block other) ≡ None
unfolding statement_fault
attempt_done setting scope under at name call block other u e e3 e4 =
    let b : block_fault setting (with_name scope name) block ≡ None = ap (λ (l : Scope). block_fault setting l block) (sym u) ∙ e3 in
    let o : block_fault setting (with_name scope name) other ≡ None = ap (λ (l : Scope). block_fault setting l other) (sym u) ∙ e4 in
    goes_on (local_fault setting scope name <|> call_fault setting scope call <|> block_fault setting (with_name scope name) block) _ (goes_on (local_fault setting scope name <|> call_fault setting scope call) _ e ∙ b) ∙ o

-- an `attempt` that the code holds
pub attempt_tree : (at : ℕ) (name : Name) (call : CallExpr) (then_block other : Items Stmt) → stmt_tree (stmt.Attempt at name call then_block other) ≡ Try at name (call_tree call) (block_tree (stmt_trees then_block.list.items)) (block_tree (stmt_trees other.list.items))
unfolding stmt.roll-Stmt denote.Hole.Carrier.roll
attempt_tree at name call then_block other = fold-roll-Stmt StmtTree stmt_step (open_stmt.Attempt at name call then_block other)
