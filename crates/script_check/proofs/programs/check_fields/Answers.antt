use Rattle.std.proofs.Common.{◌+◌, map, drop}
use Rattle.std.proofs.lemmas.Result.{err_from_is_err_and}
use Rattle.script_check.specs.Programs.{field_fault}
use Rattle.script_check.proofs.Declarations.{declares, declares_not, all_declared, drop_item, drop_past}
use Rattle.script_check.proofs.programs.check_fields.Goals as goal

pub returns-in_err-declare : goal.returns-in_err-declare
returns-in_err-declare c =
    let p = err_from_is_err_and c.from_residual.result c.from_residual.ensures.1 in
    rw (p.1, p.2) (declares_not c.in_err-declare.field-0.0 (λ f. f.name) field_fault (map (λ n. n.now) c.loop-field.names.items) c.field-item.result (drop (c.loop-field.field-index + 1) c.args.fields.now) (drop c.loop-field.field-index c.args.fields.now) c.args.fields.now (drop_item c.loop-field.field-index c.args.fields.now c.field-item.result c.loop-field-test.true c.field-item.is) c.in_err-declare.ensures c.loop-field.invariant)

pub loop-field-preserved : goal.loop-field-preserved
loop-field-preserved c = declares (λ f. f.name) field_fault (map (λ n. n.now) c.loop-field.names.items) (map (λ n. n.now) c.declare.new.names.items) c.field-item.result (drop (c.loop-field.field-index + 1) c.args.fields.now) (drop c.loop-field.field-index c.args.fields.now) c.args.fields.now (drop_item c.loop-field.field-index c.args.fields.now c.field-item.result c.loop-field-test.true c.field-item.is) c.in_ok-declare.ensures.0 c.in_ok-declare.ensures.1 c.loop-field.invariant

pub returns : goal.returns
returns c = all_declared (λ f. f.name) field_fault (map (λ n. n.now) c.loop-field.names.items) (drop c.loop-field.field-index c.args.fields.now) c.args.fields.now (drop_past c.loop-field.field-index c.args.fields.now c.loop-field-test.false) c.loop-field.invariant
