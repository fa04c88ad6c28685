use Rattle.std.proofs.Common.{◌≡◌, codes, ◌∙◌, ap}
use Rattle.serde_json.specs.Data.{string, object, put}
use Rattle.serde_json.specs.View.{view, members_view}
use Rattle.serde_json.proofs.Views.{view-Object}
use Rattle.promise_spec.specs.Reports.{ended_as}
use Rattle.log_audit.proofs.RecordMembers.{call_ended}
use Rattle.log_audit.proofs.lines.record_json.Goals as goal

pub returns : goal.returns
returns c =
    let r = c.args.entry.now in
    let session = c.args.session in
    let ended = ended_as r.origin session r.unit.0 r.result in
    let called : members_view c.put.new.map.entries ≡ put (codes "call") (string c.args.call.now) ended =
    c.in_ok-put.ensures.ok ∙ (λ i. put (codes "call") (c.in_ok-call.ensures i) (c.in_ok-map.ensures i)) in
    view-Object c.put-2.new.map ∙ ap object (c.in_ok-put-2.ensures.ok ∙ ap (put (codes "args") (view c.args.args)) called ∙ call_ended r.origin (view c.args.args) (string c.args.call.now) session r.unit.0 r.result)
