use Rattle.std.proofs.Common.{◌≡◌, drop}
use Rattle.std.specs.BTreeMap.{get}
use Rattle.base_types.specs.Stores.{grain_cmp}
use Rattle.silo_nodes.specs.Packets.{GrainId}
use Rattle.silo_nodes.specs.LogCache.{or_cell, opening_in}
use Rattle.silo_nodes.proofs.cells.open_all.Given as goal

abbrev pub invariant-loop-entry : goal.invariant-loop-entry
invariant-loop-entry l =
    (grain : GrainId) → or_cell (get grain_cmp l.cells grain) (opening_in (drop l.entry-index l.opening) grain) ≡ or_cell (get grain_cmp l.fn.cells grain) (opening_in l.opening grain)
