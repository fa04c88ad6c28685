-- The cell of one grain.
use Rattle.std.specs.Prelude.{List, [], ◌∷◌, ◌++◌, Bool, ◌&&◌, not, Option, Some, None, if◌then◌else◌, filter}
use Rattle.std.specs.List.{list_any as any}
use Rattle.base_types.specs.declared.calls.Value.{Value}
pub use Rattle.cell_model.specs.declared.locks.Reading.{Reading}
use Rattle.cell_model.specs.Units.{UnitNo, nobody, same_unit}
use Rattle.cell_model.specs.Stacks as stacks
use Rattle.cell_model.specs.Stacks.{Version, top, pushed, removed}
use Rattle.cell_model.specs.Locks as locks
use Rattle.cell_model.specs.Locks.{Hold, Mode, dropped}

-- its versions, its locks, and what each holder read
pub record Cell : Type 0 where
  pub stack : List Version
  pub holds : List Hold
  pub readings : List Reading

-- the cell of a grain that nobody has written
abbrev pub opened : List Value → Cell
opened state = record { stack = record { unit = nobody; state = state } ∷ []; holds = []; readings = [] }

-- the reading is the unit's
abbrev pub is_reading_of : UnitNo → Reading → Bool
is_reading_of unit reading = same_unit reading.unit unit

-- the readings with the unit's, where it had none
abbrev pub with_reading : List Reading → UnitNo → UnitNo → List Reading
with_reading readings unit source =
    if any (is_reading_of unit) readings then readings else readings ++ record { unit = unit; source = source } ∷ []

-- the readings without the unit's
abbrev pub without_reading : List Reading → UnitNo → List Reading
without_reading readings unit = filter (λ r. not (is_reading_of unit r)) readings

-- the unit gets the lock, and reads the top version where it had no lock of the grain
abbrev pub cell_granted : Cell → UnitNo → Mode → Cell
cell_granted cell unit mode = record {
  stack = cell.stack;
  holds = locks.granted cell.holds unit mode;
  readings = with_reading cell.readings unit (top cell.stack).unit;
}

-- what the unit read is still on top
abbrev pub reads_top : List Reading → List Version → UnitNo → Bool
reads_top readings stack unit = any (λ r. is_reading_of unit r && same_unit r.source (top stack).unit) readings

-- the stack with the unit's new state, if it has one and what it read is still there
abbrev pub stacked : List Reading → List Version → UnitNo → Option (List Value) → List Version
stacked readings stack unit None = stack
stacked readings stack unit (Some state) = if reads_top readings stack unit then pushed stack unit state else stack

-- the unit gives its new state, if it has one, and its lock back
abbrev pub cell_released : Cell → UnitNo → Option (List Value) → Cell
cell_released cell unit new = record {
  stack = stacked cell.readings cell.stack unit new;
  holds = dropped cell.holds unit;
  readings = without_reading cell.readings unit;
}

-- the stack where the unit's decision is known: a committed unit's version is the new bottom, an aborted one's goes
abbrev pub learnt : Bool → UnitNo → List Version → List Version
learnt commits unit stack = if commits then stacks.committed_stack unit stack else removed unit stack

-- the cell learns the unit's decision
abbrev pub cell_learned : Cell → UnitNo → Bool → Cell
cell_learned cell unit commits = record { stack = learnt commits unit cell.stack; holds = cell.holds; readings = cell.readings }
