use Rattle.std.proofs.Common.{◌+◌, sym, ◌∙◌, map, drop}
use Rattle.std.proofs.lemmas.Result.{err_from_is_err_and}
use Rattle.script_tree.specs.Exprs.{expr_tree}
use Rattle.script_scopes.specs.Settings.{setting_of}
use Rattle.script_scopes.specs.Expressions.{expression_fault, arguments_fault}
use Rattle.script_scopes.proofs.Founds.{fails_first, fails_is, goes_on}
use Rattle.script_scopes.proofs.Lists.{drop_map, drop_end}
use Rattle.script_scopes.proofs.Blocks.{argument_step, arguments_end}
use Rattle.script_scopes.proofs.calls.check_arguments.Goals as goal

pub returns-in_err-check_expression : goal.returns-in_err-check_expression
returns-in_err-check_expression c =
    let p = err_from_is_err_and c.from_residual.result c.from_residual.ensures.1 in
    let setting = setting_of c.args.setting.now in
    let scope = map (λ n. n.now) c.args.names.now.items in
    let step = argument_step setting scope (expr_tree c.arg-item.result) (map expr_tree (drop (c.loop-arg.arg-index + 1) c.args.args.now)) _ (drop_map expr_tree c.loop-arg.arg-index c.args.args.now c.arg-item.result c.loop-arg-test.true c.arg-item.is) in
    rw (p.1, p.2) (fails_is c.in_err-check_expression.field-0.0 _ _ (sym step ∙ c.loop-arg.invariant) (fails_first c.in_err-check_expression.field-0.0 (expression_fault setting scope (expr_tree c.arg-item.result)) _ c.in_err-check_expression.ensures))

pub loop-arg-preserved : goal.loop-arg-preserved
loop-arg-preserved c =
    let setting = setting_of c.args.setting.now in
    let scope = map (λ n. n.now) c.args.names.now.items in
    let rest = map expr_tree (drop (c.loop-arg.arg-index + 1) c.args.args.now) in
    let step = argument_step setting scope (expr_tree c.arg-item.result) rest _ (drop_map expr_tree c.loop-arg.arg-index c.args.args.now c.arg-item.result c.loop-arg-test.true c.arg-item.is) in
    sym (goes_on (expression_fault setting scope (expr_tree c.arg-item.result)) (arguments_fault setting scope rest) c.in_ok-check_expression.ensures) ∙ sym step ∙ c.loop-arg.invariant

pub returns : goal.returns
returns c = sym c.loop-arg.invariant ∙ arguments_end (setting_of c.args.setting.now) (map (λ n. n.now) c.args.names.now.items) _ (drop_end expr_tree c.loop-arg.arg-index c.args.args.now c.loop-arg-test.false)
