-- What a grant takes off its grain's stack, and which sources are sure, by what is kept.
use Rattle.std.specs.Prelude.{◌≡◌, Bool, ◌||◌, Option, find}
use Rattle.cell_model.specs.Cells.{Cell}
use Rattle.core_model.specs.CoreState.{UnitNo, GrainId, nobody, same_unit}
use Rattle.core_model.specs.Tests.{is_aborted, is_committed}
use Rattle.grain_cell.specs.Room.{writers, without_aborted}
use Rattle.cell_table.specs.Table.{cell_in}
use Rattle.unit_table.specs.Table.{verdict_in}
use Rattle.history_core.specs.declared.parts.Parts.{Parts}

-- the unit, if any, is the oldest aborted writer of the grain's versions
abbrev pub Cleans : Parts → GrainId → Option UnitNo → Type 0
Cleans p g aborted = aborted ≡ find (λ u. is_aborted (verdict_in p.units u)) (writers (cell_in p.cells g).stack)

-- the cell without that unit's version and all above it, where one is named
abbrev pub cell_without : Cell → Option UnitNo → Cell
cell_without cell aborted = record { stack = without_aborted aborted cell.stack; holds = cell.holds; readings = cell.readings }

-- nobody, or committed
abbrev pub is_sure_in : Parts → UnitNo → Bool
is_sure_in p u = same_unit u nobody || is_committed (verdict_in p.units u)
