use Rattle.std.proofs.Common.{◌+◌, map, drop}
use Rattle.std.proofs.lemmas.Result.{err_from_is_err_and}
use Rattle.script_check.specs.Programs.{parameter_fault}
use Rattle.script_check.proofs.Declarations.{declares, declares_not, all_declared, drop_item, drop_past}
use Rattle.script_check.proofs.programs.check_parameters.Goals as goal

pub returns-in_err-check_parameter : goal.returns-in_err-check_parameter
returns-in_err-check_parameter c =
    let p = err_from_is_err_and c.from_residual.result c.from_residual.ensures.1 in
    rw (p.1, p.2) (declares_not c.in_err-check_parameter.field-0.0 (λ n. n) (parameter_fault (map (λ n. n.now) c.args.fields.now)) (map (λ n. n.now) c.loop-param.names.items) c.param-item.result (drop (c.loop-param.param-index + 1) c.args.params.now) (drop c.loop-param.param-index c.args.params.now) c.args.params.now (drop_item c.loop-param.param-index c.args.params.now c.param-item.result c.loop-param-test.true c.param-item.is) c.in_err-check_parameter.ensures c.loop-param.invariant)

pub loop-param-preserved : goal.loop-param-preserved
loop-param-preserved c = declares (λ n. n) (parameter_fault (map (λ n. n.now) c.args.fields.now)) (map (λ n. n.now) c.loop-param.names.items) (map (λ n. n.now) c.check_parameter.new.names.items) c.param-item.result (drop (c.loop-param.param-index + 1) c.args.params.now) (drop c.loop-param.param-index c.args.params.now) c.args.params.now (drop_item c.loop-param.param-index c.args.params.now c.param-item.result c.loop-param-test.true c.param-item.is) c.in_ok-check_parameter.ensures.0 c.in_ok-check_parameter.ensures.1 c.loop-param.invariant

pub returns : goal.returns
returns c = all_declared (λ n. n) (parameter_fault (map (λ n. n.now) c.args.fields.now)) (map (λ n. n.now) c.loop-param.names.items) (drop c.loop-param.param-index c.args.params.now) c.args.params.now (drop_past c.loop-param.param-index c.args.params.now c.loop-param-test.false) c.loop-param.invariant
