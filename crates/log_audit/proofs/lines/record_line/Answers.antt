use Rattle.std.proofs.Common.{◌≡◌, List, map, codes, ◌∙◌, ap}
use Rattle.base_types.specs.declared.calls.Value.{Value}
use Rattle.script_tree.specs.Programs.{type_tree}
use Rattle.serde_json.specs.Data.{string, array, object, member}
use Rattle.serde_json.specs.View.{view}
use Rattle.promise_spec.specs.Reports.{items_of, ended_as}
use Rattle.log_audit.specs.Lines.{call_named, record_data}
use Rattle.log_audit.proofs.Floats.{record_no_float, lined}
use Rattle.log_audit.proofs.lines.record_line.Goals as goal

pub returns : goal.returns
returns c =
    let shape = c.args.shape.now in
    let types = map type_tree c.args.types.now in
    let r = c.args.entry.now in
    let session = c.args.session in
    let args : view c.in_ok-args.args ≡ array (items_of r.call.args) = c.in_ok-args.ensures ∙ ap (λ (vs : List Value). array (items_of vs)) c.as_slice.ensures in
    let call : c.as_str.result.now ≡ call_named shape types r.call = c.as_str.ensures.value ∙ c.in_ok-call.ensures in
    lined (view c.in_ok-value.value) (record_data shape types session r) c.line_text.result
    (c.in_ok-value.ensures ∙ (λ i. object (member (codes "args") (args i) (member (codes "call") (string (call i)) (ended_as r.origin session r.unit.0 r.result))))) (record_no_float shape types session r) c.line_text.ensures
