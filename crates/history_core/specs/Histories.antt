-- The run of a core, by what it keeps.
use Rattle.std.specs.Prelude.{ℕ, List}
use Rattle.core_model.specs.declared.events.CoreEvent.{CoreEvent}
use Rattle.core_model.specs.LegalRuns.{Run}
use Rattle.cell_table.specs.Table.{opens_with}
use Rattle.cell_table.specs.declared.table.CellTable.{CellTable}

-- the run with these events, of a core that keeps these cells
abbrev pub run_with : ℕ → ℕ → CellTable → List CoreEvent → Run
run_with base kinds cells events = record { base = base; kinds = kinds; capacity = (opens_with cells).limit; opening = (opens_with cells).states; events = events }
