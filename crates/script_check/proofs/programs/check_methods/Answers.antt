use Rattle.std.proofs.Common.{◌+◌, map, drop}
use Rattle.std.proofs.lemmas.Result.{err_from_is_err_and}
use Rattle.script_tree.specs.Programs.{method_tree, type_tree}
use Rattle.script_check.specs.Programs.{method_fault}
use Rattle.script_scopes.proofs.Lists.{drop_map, drop_end}
use Rattle.script_check.proofs.Declarations.{declares, declares_not, all_declared}
use Rattle.script_check.proofs.programs.check_methods.Goals as goal

pub returns-in_err-check_method : goal.returns-in_err-check_method
returns-in_err-check_method c =
    let p = err_from_is_err_and c.from_residual.result c.from_residual.ensures.1 in
    rw (p.1, p.2) (declares_not c.in_err-check_method.field-0.0 (λ m. m.name) (method_fault (map type_tree c.args.types.now) (map (λ n. n.now) c.args.fields.now)) (map (λ n. n.now) c.loop-method.names.items) (method_tree c.method-item.result) (map method_tree (drop (c.loop-method.method-index + 1) c.args.methods.now)) (map method_tree (drop c.loop-method.method-index c.args.methods.now)) (map method_tree c.args.methods.now) (drop_map method_tree c.loop-method.method-index c.args.methods.now c.method-item.result c.loop-method-test.true c.method-item.is) c.in_err-check_method.ensures c.loop-method.invariant)

pub loop-method-preserved : goal.loop-method-preserved
loop-method-preserved c = declares (λ m. m.name) (method_fault (map type_tree c.args.types.now) (map (λ n. n.now) c.args.fields.now)) (map (λ n. n.now) c.loop-method.names.items) (map (λ n. n.now) c.check_method.new.names.items) (method_tree c.method-item.result) (map method_tree (drop (c.loop-method.method-index + 1) c.args.methods.now)) (map method_tree (drop c.loop-method.method-index c.args.methods.now)) (map method_tree c.args.methods.now) (drop_map method_tree c.loop-method.method-index c.args.methods.now c.method-item.result c.loop-method-test.true c.method-item.is) c.in_ok-check_method.ensures.0 c.in_ok-check_method.ensures.1 c.loop-method.invariant

pub returns : goal.returns
returns c = (all_declared (λ m. m.name) (method_fault (map type_tree c.args.types.now) (map (λ n. n.now) c.args.fields.now)) (map (λ n. n.now) c.loop-method.names.items) (map method_tree (drop c.loop-method.method-index c.args.methods.now)) (map method_tree c.args.methods.now) (drop_end method_tree c.loop-method.method-index c.args.methods.now c.loop-method-test.false) c.loop-method.invariant).0
