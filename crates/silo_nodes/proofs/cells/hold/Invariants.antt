use Rattle.std.proofs.Common.{◌≡◌, drop}
use Rattle.std.specs.BTreeMap.{get}
use Rattle.base_types.specs.Stores.{grain_cmp}
use Rattle.silo_nodes.specs.Packets.{GrainId}
use Rattle.silo_nodes.specs.LogCache.{held}
use Rattle.silo_nodes.proofs.cells.hold.Given as goal

abbrev pub invariant-loop-shift : goal.invariant-loop-shift
invariant-loop-shift l = (grain : GrainId) → held (drop l.shift-index l.shifts) grain (get grain_cmp l.cells grain) ≡ held l.shifts grain (get grain_cmp l.fn.cells grain)
