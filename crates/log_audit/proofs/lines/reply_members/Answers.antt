use Rattle.std.proofs.Common.{◌≡◌, codes, ◌∙◌, ap}
use Rattle.request_wire.specs.Reply.{value_data}
use Rattle.serde_json.specs.Data.{member, put}
use Rattle.serde_json.specs.View.{members_view}
use Rattle.promise_spec.specs.Reports.{unit_counts}
use Rattle.log_audit.specs.Lines.{origin_put}
use Rattle.log_audit.proofs.RecordMembers.{origin_reply}
use Rattle.log_audit.proofs.lines.reply_members.Goals as goal

pub returns : goal.returns
returns c =
    let session = c.args.session in
    let unit = c.args.unit in
    let reply = value_data c.args.value.now in
    let put_reply : members_view c.put.new.map.entries ≡ member (codes "reply") reply (unit_counts session unit) =
    c.in_ok-put.ensures.ok ∙ (λ i. put (codes "reply") (c.in_ok-reply.ensures i) (c.in_ok-map.ensures i)) in
    c.in_ok-put_origin.ensures ∙ ap (origin_put c.args.origin) put_reply ∙ origin_reply c.args.origin reply session unit
