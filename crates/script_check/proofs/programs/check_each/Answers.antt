use Rattle.std.proofs.Common.{◌+◌, map, drop}
use Rattle.std.proofs.lemmas.Result.{err_from_is_err_and}
use Rattle.script_tree.specs.Programs.{type_tree}
use Rattle.script_check.specs.Programs.{type_fault}
use Rattle.script_scopes.proofs.Lists.{drop_map, drop_end}
use Rattle.script_check.proofs.Declarations.{declares, declares_not, all_declared}
use Rattle.script_check.proofs.programs.check_each.Goals as goal

pub returns-in_err-check_type : goal.returns-in_err-check_type
returns-in_err-check_type c =
    let p = err_from_is_err_and c.from_residual.result c.from_residual.ensures.1 in
    rw (p.1, p.2) (declares_not c.in_err-check_type.field-0.0 (λ t. t.name) (type_fault (map type_tree c.args.types.now)) (map (λ n. n.now) c.loop-of_type.names.items) (type_tree c.of_type-item.result) (map type_tree (drop (c.loop-of_type.of_type-index + 1) c.args.each.now)) (map type_tree (drop c.loop-of_type.of_type-index c.args.each.now)) (map type_tree c.args.each.now) (drop_map type_tree c.loop-of_type.of_type-index c.args.each.now c.of_type-item.result c.loop-of_type-test.true c.of_type-item.is) c.in_err-check_type.ensures c.loop-of_type.invariant)

pub loop-of_type-preserved : goal.loop-of_type-preserved
loop-of_type-preserved c = declares (λ t. t.name) (type_fault (map type_tree c.args.types.now)) (map (λ n. n.now) c.loop-of_type.names.items) (map (λ n. n.now) c.check_type.new.names.items) (type_tree c.of_type-item.result) (map type_tree (drop (c.loop-of_type.of_type-index + 1) c.args.each.now)) (map type_tree (drop c.loop-of_type.of_type-index c.args.each.now)) (map type_tree c.args.each.now) (drop_map type_tree c.loop-of_type.of_type-index c.args.each.now c.of_type-item.result c.loop-of_type-test.true c.of_type-item.is) c.in_ok-check_type.ensures.0 c.in_ok-check_type.ensures.1 c.loop-of_type.invariant

pub returns : goal.returns
returns c = (all_declared (λ t. t.name) (type_fault (map type_tree c.args.types.now)) (map (λ n. n.now) c.loop-of_type.names.items) (map type_tree (drop c.loop-of_type.of_type-index c.args.each.now)) (map type_tree c.args.each.now) (drop_end type_tree c.loop-of_type.of_type-index c.args.each.now c.loop-of_type-test.false) c.loop-of_type.invariant).0
