use denote.Param.Send.{sendable}
use Rattle.run_lines.proofs.SharedValues.{checked_sync}
use Rattle.wire_tests.proofs.places.inputs_are_shared.Goals as goal

pub is_shared-requires-send-L : goal.is_shared-requires-send-L
is_shared-requires-send-L c κs = search (sendable, checked_sync) depth 20

pub is_shared-requires-sync-L : goal.is_shared-requires-sync-L
is_shared-requires-sync-L c κs = search (sendable, checked_sync) depth 20
