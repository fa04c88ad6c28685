use Rattle.std.proofs.Common.{codes, ◌∙◌, ap}
use Rattle.serde_json.specs.Data.{string, object, put}
use Rattle.serde_json.proofs.Views.{view-Object}
use Rattle.request_wire.specs.Reply.{grain_text}
use Rattle.request_wire.proofs.replies.vote_reply.Goals as goal

pub returns : goal.returns
returns c =
    let refused = c.in_ok-put_grain.ensures ∙ ap (put (codes "grain") (string (grain_text c.args.shape.now c.args.grain))) c.in_ok-map.ensures in
    view-Object c.put_text.new.map ∙ ap object (c.in_ok-put_text.ensures ∙ ap (put (codes "aborted") (string (codes "vote"))) refused)
