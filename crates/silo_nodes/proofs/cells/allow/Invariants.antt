use Rattle.std.proofs.Common.{◌≡◌, drop}
use Rattle.std.specs.BTreeMap.{get}
use Rattle.base_types.specs.Stores.{grain_cmp}
use Rattle.silo_nodes.specs.LogCache.{all_allow}
use Rattle.silo_nodes.proofs.cells.allow.Given as goal

abbrev pub invariant-loop-shift : goal.invariant-loop-shift
invariant-loop-shift l = all_allow (get grain_cmp l.cells) (drop l.shift-index l.shifts) ≡ all_allow (get grain_cmp l.cells) l.shifts
