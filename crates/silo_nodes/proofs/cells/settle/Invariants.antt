use Rattle.std.proofs.Common.{◌≡◌, drop}
use Rattle.std.specs.BTreeMap.{get}
use Rattle.base_types.specs.Stores.{grain_cmp}
use Rattle.silo_nodes.specs.Packets.{GrainId}
use Rattle.silo_nodes.specs.LogCache.{settled, ShiftsFit}
use Rattle.silo_nodes.proofs.cells.settle.Given as goal

abbrev pub invariant-loop-shift : goal.invariant-loop-shift
invariant-loop-shift l =
    ShiftsFit (drop l.shift-index l.shifts) (get grain_cmp l.cells)
    × ((grain : GrainId) → settled l.commit (drop l.shift-index l.shifts) grain (get grain_cmp l.cells grain) ≡ settled l.commit l.shifts grain (get grain_cmp l.fn.cells grain))
