use Rattle.request_wire.proofs.Arguments.{json_of-read, json_of-unread}
use Rattle.request_wire.proofs.calls.json_of.Goals as goal

pub returns-in-Ok : goal.returns-in-Ok
returns-in-Ok c = json_of-read _ _ c.in-Ok.ensures.ok.0 c.in-Ok.ensures.ok.1

pub returns-in-Err-2 : goal.returns-in-Err-2
returns-in-Err-2 c = json_of-unread _ (c.in-Err.ensures.err (λ m. cc (c.if-is_memory.ensures.1 m)))
