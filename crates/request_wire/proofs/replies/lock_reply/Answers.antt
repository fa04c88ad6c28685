use Rattle.std.proofs.Common.{codes, ◌∙◌, ap}
use Rattle.serde_json.specs.Data.{unsigned, number, string, object, put}
use Rattle.serde_json.proofs.Views.{view-Object}
use Rattle.request_wire.specs.Reply.{grain_text}
use Rattle.request_wire.proofs.replies.lock_reply.Goals as goal

pub returns : goal.returns
returns c =
    let held = c.in_ok-put_grain.ensures ∙ ap (put (codes "grain") (string (grain_text c.args.shape.now c.args.grain))) c.in_ok-map.ensures in
    let older = c.in_ok-put_count.ensures ∙ ap (put (codes "by") (number (unsigned c.args.by.0))) held in
    view-Object c.put_text.new.map ∙ ap object (c.in_ok-put_text.ensures ∙ ap (put (codes "aborted") (string (codes "lock"))) older)
