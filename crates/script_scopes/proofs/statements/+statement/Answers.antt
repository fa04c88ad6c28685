use Rattle.std.proofs.Common.{◌≡◌, ◌∷◌, [], ◌+◌, sym, ap, ◌∙◌, refl, subst, List, map, drop, None, arith, Bor}
use Rattle.std.proofs.lemmas.Result.{err_from_is_err_and}
use Rattle.script_tree.specs.Exprs.{expr_tree, call_tree}
use Rattle.script_tree.specs.Stmts.{StmtTree, Try, source_tree, stmt_tree, stmt_trees, block_tree}
use Rattle.script_tree.specs.declared.statements.Stmt.{Stmt}
use Rattle.script_tree.specs.declared.chars.Chars.{Chars}
use Rattle.script_scopes.specs.FirstFaults.{◌<|>◌, Leaves}
use Rattle.script_scopes.specs.Names.{Scope, local_fault, assigned_fault, set_fault}
use Rattle.script_scopes.specs.Expressions.{call_fault, expression_fault}
use Rattle.script_scopes.specs.Settings.{setting_of}
use Rattle.script_scopes.specs.Statements.{with_name, source_fault, block_fault, statement_fault, scope_after}
use Rattle.script_scopes.proofs.Lists.{drop_map, drop_end, taken}
use Rattle.script_scopes.proofs.Blocks.{HasChecked, goes_further, fails_here, ends, attempt_done, attempt_tree}
use Rattle.script_tree.proofs.StatementTrees.{let_tree, assign_tree, set_tree, call_statement_tree, return_tree}
use Rattle.script_scopes.proofs.Lefts.{leaves_them}
use Rattle.script_scopes.proofs.statements.+statement.Goals as goal

pub check_block-returns-in_err-check_statement : goal.check_block-returns-in_err-check_statement
check_block-returns-in_err-check_statement t c =
    let p = err_from_is_err_and c.from_residual.result c.from_residual.ensures.1 in
    let setting = setting_of c.args.setting.now in
    let scope = map (λ n. n.now) c.loop-statement.names.items in
    let first = map (λ n. n.now) c.args.names.now.items in
    let rest = stmt_trees (drop (c.loop-statement.statement-index + 1) c.args.body.now) in
    let all = stmt_trees c.args.body.now in
    let d = drop_map stmt_tree c.loop-statement.statement-index c.args.body.now c.statement-item.result c.loop-statement-test.true c.statement-item.is in
    rw (p.1, p.2) (fails_here c.in_err-check_statement.field-0.0 setting scope first (stmt_tree c.statement-item.result) rest all c.in_err-check_statement.ensures
    (subst (λ (l : List StmtTree). HasChecked setting scope first l all) d c.loop-statement.invariant))

pub check_block-loop-statement-preserved : goal.check_block-loop-statement-preserved
check_block-loop-statement-preserved t c =
    let setting = setting_of c.args.setting.now in
    let scope = map (λ n. n.now) c.loop-statement.names.items in
    let first = map (λ n. n.now) c.args.names.now.items in
    let rest = stmt_trees (drop (c.loop-statement.statement-index + 1) c.args.body.now) in
    let all = stmt_trees c.args.body.now in
    let d = drop_map stmt_tree c.loop-statement.statement-index c.args.body.now c.statement-item.result c.loop-statement-test.true c.statement-item.is in
    goes_further setting scope first (map (λ n. n.now) c.check_statement.new.names.items) (stmt_tree c.statement-item.result) rest all c.in_ok-check_statement.ensures.0 c.in_ok-check_statement.ensures.1
    (subst (λ (l : List StmtTree). HasChecked setting scope first l all) d c.loop-statement.invariant)

pub check_block-returns : goal.check_block-returns
check_block-returns t c =
    let setting = setting_of c.args.setting.now in
    let scope = map (λ n. n.now) c.loop-statement.names.items in
    let first = map (λ n. n.now) c.args.names.now.items in
    let all = stmt_trees c.args.body.now in
    let h = subst (λ (l : List StmtTree). HasChecked setting scope first l all) (drop_end stmt_tree c.loop-statement.statement-index c.args.body.now c.loop-statement-test.false) c.loop-statement.invariant in
    (sym h.so_far ∙ ends setting scope, rw c.truncate.ensures (taken (λ n. n.now) c.loop-statement.names.items c.args.names.now.items h.added c.len-outer.result (omega arith) h.grown))

pub check_statement-returns-in-Let : goal.check_statement-returns-in-Let
unfolding statement_fault
check_statement-returns-in-Let t c =
    let setting = setting_of c.args.setting.now in
    let scope : Scope = map (λ n. n.now) c.args.names.now.items in
    let left : Scope = map (λ n. n.now) c.check_let.new.names.items in
    subst (λ (s : StmtTree). Leaves c.check_let.result (statement_fault setting scope s) left (scope_after scope s)) (sym (ap stmt_tree c.in-Let.is ∙ let_tree c.in-Let.name c.in-Let.value)) c.check_let.ensures

pub check_statement-returns-in-Assign : goal.check_statement-returns-in-Assign
unfolding statement_fault
check_statement-returns-in-Assign t c =
    let setting = setting_of c.args.setting.now in
    let scope : Scope = map (λ n. n.now) c.args.names.now.items in
    subst (λ (s : StmtTree). Leaves c.check_assign.result (statement_fault setting scope s) scope (scope_after scope s)) (sym (ap stmt_tree c.in-Assign.is ∙ assign_tree c.in-Assign.name c.in-Assign.value)) (leaves_them c.check_assign.result (assigned_fault scope c.in-Assign.name <|> source_fault setting scope (source_tree c.in-Assign.value)) scope scope refl c.check_assign.ensures)

pub check_statement-returns-in-Set : goal.check_statement-returns-in-Set
unfolding statement_fault
check_statement-returns-in-Set t c =
    let setting = setting_of c.args.setting.now in
    let scope : Scope = map (λ n. n.now) c.args.names.now.items in
    subst (λ (s : StmtTree). Leaves c.check_field.result (statement_fault setting scope s) scope (scope_after scope s)) (sym (ap stmt_tree c.in-Set.is ∙ set_tree c.in-Set.name c.in-Set.value)) (leaves_them c.check_field.result (set_fault setting c.in-Set.name <|> expression_fault setting scope (expr_tree c.in-Set.value)) scope scope refl c.check_field.ensures)

pub check_statement-returns-in-Call : goal.check_statement-returns-in-Call
unfolding statement_fault
check_statement-returns-in-Call t c =
    let setting = setting_of c.args.setting.now in
    let scope : Scope = map (λ n. n.now) c.args.names.now.items in
    subst (λ (s : StmtTree). Leaves c.check_call.result (statement_fault setting scope s) scope (scope_after scope s)) (sym (ap stmt_tree c.in-Call.is ∙ call_statement_tree c.in-Call.call)) (leaves_them c.check_call.result (call_fault setting scope (call_tree c.in-Call.call)) scope scope refl c.check_call.ensures)

pub check_statement-returns-in-Return : goal.check_statement-returns-in-Return
unfolding statement_fault
check_statement-returns-in-Return t c =
    let setting = setting_of c.args.setting.now in
    let scope : Scope = map (λ n. n.now) c.args.names.now.items in
    subst (λ (s : StmtTree). Leaves c.check_expression-in-Return.result (statement_fault setting scope s) scope (scope_after scope s)) (sym (ap stmt_tree c.in-Return.is ∙ return_tree c.in-Return.value)) (leaves_them c.check_expression-in-Return.result (expression_fault setting scope (expr_tree c.in-Return.value)) scope scope refl c.check_expression-in-Return.ensures)

pub check_statement-returns-in_ok-check_block-in-Attempt-2 : goal.check_statement-returns-in_ok-check_block-in-Attempt-2
check_statement-returns-in_ok-check_block-in-Attempt-2 t c =
    let setting = setting_of c.args.setting.now in
    let scope : Scope = map (λ n. n.now) c.args.names.now.items in
    let under : Scope = map (λ n. n.now) c.check_tried.new.names.items in
    let name = c.in-Attempt.name in
    let more : under ≡ with_name scope name = c.in_ok-check_tried-in-Attempt.ensures.1 in
    let second : map (λ n. n.now) c.check_block-in-Attempt-2.new.names.items ≡ with_name scope name = c.in_ok-check_block-in-Attempt-2.ensures.1 ∙ c.in_ok-check_block-in-Attempt.ensures.1 ∙ more in
    let then_right : block_fault setting under (block_tree (stmt_trees c.in-Attempt.then.list.items)) ≡ None = ap (λ (l : List Stmt). block_fault setting under (block_tree (stmt_trees l))) (sym c.as_slice-in-Attempt.ensures) ∙ c.in_ok-check_block-in-Attempt.ensures.0 in
    let other_same : block_fault setting under (block_tree (stmt_trees c.in-Attempt.other.list.items)) ≡ block_fault setting under (block_tree (stmt_trees c.as_slice-in-Attempt-2.result.now)) = ap (λ (l : List Stmt). block_fault setting under (block_tree (stmt_trees l))) (sym c.as_slice-in-Attempt-2.ensures) in
    let other_under : block_fault setting under (block_tree (stmt_trees c.as_slice-in-Attempt-2.result.now)) ≡ None = ap (λ (l : Scope). block_fault setting l (block_tree (stmt_trees c.as_slice-in-Attempt-2.result.now))) (sym c.in_ok-check_block-in-Attempt.ensures.1) ∙ c.in_ok-check_block-in-Attempt-2.ensures.0 in
    let tried : (local_fault setting scope name <|> call_fault setting scope (call_tree c.in-Attempt.call)) ≡ None = c.in_ok-check_tried-in-Attempt.ensures.0 in
    let is : stmt_tree c.args.statement.now ≡ Try c.in-Attempt.at name (call_tree c.in-Attempt.call) (block_tree (stmt_trees c.in-Attempt.then.list.items)) (block_tree (stmt_trees c.in-Attempt.other.list.items)) = ap stmt_tree c.in-Attempt.is ∙ attempt_tree c.in-Attempt.at name c.in-Attempt.call c.in-Attempt.then c.in-Attempt.other in
    let left : map (λ n. n.now) c.truncate.new.self.items ≡ scope = ap (λ (l : List (Bor Chars)). map (λ n. n.now) l) c.truncate.ensures ∙ taken (λ n. n.now) c.check_block-in-Attempt-2.new.names.items c.args.names.now.items (name.text ∷ []) c.len-count.result (omega arith) second in (
      ap (statement_fault setting scope) is ∙ attempt_done setting scope under c.in-Attempt.at name (call_tree c.in-Attempt.call) (block_tree (stmt_trees c.in-Attempt.then.list.items)) (block_tree (stmt_trees c.in-Attempt.other.list.items)) more tried then_right (other_same ∙ other_under),
      left ∙ ap (scope_after scope) (sym is),
    )
