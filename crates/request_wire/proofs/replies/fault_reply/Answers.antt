use Rattle.std.proofs.Common.{codes, ◌∙◌, ap}
use Rattle.serde_json.specs.Data.{string, object, put}
use Rattle.serde_json.proofs.Views.{view-Object}
use Rattle.request_wire.proofs.replies.fault_reply.Goals as goal

pub returns : goal.returns
returns c =
    view-Object c.put_text.new.map ∙ ap object (c.in_ok-put_text.ensures ∙ ap (put (codes "fault") (string c.args.text.now)) c.in_ok-map.ensures)
