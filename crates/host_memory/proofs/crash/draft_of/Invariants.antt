use Rattle.std.proofs.Common.{take}
use Rattle.host_memory.specs.Drafts.{IsDraft}
use Rattle.host_memory.specs.Replay.{state_at}
use Rattle.host_memory.proofs.crash.draft_of.Given as goal

abbrev pub invariant-loop-noted : goal.invariant-loop-noted
invariant-loop-noted l = IsDraft l.draft (state_at l.until (take l.noted-index l.events) l.file)
