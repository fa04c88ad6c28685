use Rattle.std.proofs.Common.{codes, ◌∙◌, ap}
use Rattle.serde_json.specs.Data.{unsigned, number, string, object, put}
use Rattle.serde_json.proofs.Views.{view-Object}
use Rattle.request_wire.proofs.replies.dependency_reply.Goals as goal

pub returns : goal.returns
returns c =
    let source = c.in_ok-put_count.ensures ∙ ap (put (codes "on") (number (unsigned c.args.on.0))) c.in_ok-map.ensures in
    view-Object c.put_text.new.map ∙ ap object (c.in_ok-put_text.ensures ∙ ap (put (codes "aborted") (string (codes "dependency"))) source)
