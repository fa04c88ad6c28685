-- What an event makes of the one cell that it changes.
use Rattle.std.specs.Prelude.{[], ◌∷◌, List}
use Rattle.cell_model.specs.Cells.{Cell, cell_granted, cell_released, cell_learned}
use Rattle.cell_model.specs.Stacks.{cut}
use Rattle.core_model.specs.CoreState.{UnitNo, GrainId, Value, Mode, CoreState}
use Rattle.core_model.specs.Tests.{is_aborted, is_committed, state_written}

-- a cell that was brought into memory with this version
abbrev pub brought : UnitNo → List Value → Cell
brought u state = record { stack = record { unit = u; state = state } ∷ []; holds = []; readings = [] }

-- the cell without the versions of aborted units and what stands above them
abbrev pub cleared_cell : CoreState → Cell → Cell
cleared_cell w x = record { stack = cut (λ y. is_aborted (w.manager.verdict y.unit)) x.stack; holds = x.holds; readings = x.readings }

-- after a grant, a release and a lesson
abbrev pub after_grant_in : CoreState → UnitNo → Mode → Cell → Cell
after_grant_in w u mode x = cell_granted (cleared_cell w x) u mode

abbrev pub after_release_in : CoreState → UnitNo → GrainId → Cell → Cell
after_release_in w u g x = cell_released x u (state_written g (w.manager.writes u))

abbrev pub after_learn_in : CoreState → UnitNo → Cell → Cell
after_learn_in w u x = cell_learned x u (is_committed (w.manager.verdict u))
