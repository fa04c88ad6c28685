use Rattle.std.proofs.Common.{◌≡◌, ◌≤◌, take}
use Rattle.host_memory.specs.Replay.{syncs_of}
use Rattle.host_memory.proofs.events.count_syncs.Given as goal

abbrev pub invariant-loop-noted : goal.invariant-loop-noted
invariant-loop-noted l = (l.syncs ≤ l.noted-index) × (l.syncs ≡ syncs_of (take l.noted-index l.events))
