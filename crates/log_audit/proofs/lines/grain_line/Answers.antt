use Rattle.std.proofs.Common.{◌≡◌, List, map, codes, ◌∙◌, ap}
use Rattle.request_wire.specs.Reply.{grain_text}
use Rattle.script_tree.specs.declared.programs.FieldDecl.{FieldDecl}
use Rattle.script_tree.specs.Programs.{type_tree}
use Rattle.serde_json.specs.Data.{string, object, member, no_members}
use Rattle.serde_json.specs.View.{view}
use Rattle.promise_spec.specs.Reports.{fields_data}
use Rattle.log_audit.specs.Lines.{fields_of_kind, grain_data}
use Rattle.log_audit.proofs.Floats.{grain_no_float, lined}
use Rattle.log_audit.proofs.lines.grain_line.Goals as goal

pub returns : goal.returns
returns c =
    let shape = c.args.shape.now in
    let types = map type_tree c.args.types.now in
    let state = c.args.state.now in
    let fields : view c.in_ok-fields.fields ≡ object (fields_data c.fields_of_kind.result.now state) = c.in_ok-fields.ensures in
    let all : view c.in_ok-fields.fields ≡ object (fields_data (fields_of_kind types c.args.grain.kind) state) = fields ∙ ap (λ (fs : List FieldDecl). object (fields_data fs state)) c.fields_of_kind.ensures in
    let grain : c.as_str.result.now ≡ grain_text shape c.args.grain = c.as_str.ensures.value ∙ c.in_ok-text.ensures in
    lined (view c.in_ok-value.value) (grain_data shape types c.args.grain state) c.line_text.result
    (c.in_ok-value.ensures ∙ (λ i. object (member (codes "fields") (all i) (member (codes "grain") (string (grain i)) no_members)))) (grain_no_float shape types c.args.grain state) c.line_text.ensures
