use Rattle.std.proofs.Common.{◌≡◌, take}
use Rattle.system_memory.specs.MemoryState.{held_of}
use Rattle.system_memory.proofs.replay.bytes_of.Given as goal

abbrev pub invariant-loop-event : goal.invariant-loop-event
invariant-loop-event l = l.bytes.items ≡ ((held_of (take l.event-index l.events)).disk l.file).seen
