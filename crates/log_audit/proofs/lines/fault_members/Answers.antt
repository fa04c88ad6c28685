use Rattle.std.proofs.Common.{◌≡◌, codes, ◌∙◌, ap}
use Rattle.serde_json.specs.Data.{string, put}
use Rattle.serde_json.specs.View.{members_view}
use Rattle.promise_spec.specs.Reports.{origin_count, unit_counts}
use Rattle.log_audit.specs.Lines.{origin_put}
use Rattle.log_audit.proofs.RecordMembers.{origin_units, fault_origin}
use Rattle.log_audit.proofs.lines.fault_members.Goals as goal

pub returns : goal.returns
returns c =
    let origin = c.args.origin in
    let session = c.args.session in
    let unit = c.args.unit in
    let with_origin : members_view c.put_origin.new.map.entries ≡ origin_count origin (unit_counts session unit) =
    c.in_ok-put_origin.ensures ∙ ap (origin_put origin) c.in_ok-map.ensures ∙ origin_units origin session unit in
    c.in_ok-put.ensures.ok ∙ (λ i. put (codes "fault") (c.in_ok-fault.ensures i) (with_origin i)) ∙ fault_origin origin (string c.args.fault.now) session unit
