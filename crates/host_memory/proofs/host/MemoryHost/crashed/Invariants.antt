use Rattle.std.proofs.Common.{◌≡◌, []}
use Rattle.host_memory.specs.Drawings.{IsDrawing}
use Rattle.host_memory.specs.ShownState.{IsFresh, world_in, is_written}
use Rattle.host_memory.proofs.host.MemoryHost.crashed.Given as goal

abbrev pub invariant-loop-noted : goal.invariant-loop-noted
invariant-loop-noted l = IsDrawing l.self.events.items l.until l.noted-index (is_written l.host) (world_in l.host).disk × IsFresh l.host × ((world_in l.host).input ≡ [])
