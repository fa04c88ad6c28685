use Rattle.request_wire.proofs.OneLine.{reply_line-first}
use Rattle.request_wire.proofs.replies.replies_are_lines.Goals as goal

pub returns : goal.returns
returns c = reply_line-first
