-- What the cells of the grains stand for, and which grains are in memory.
use Rattle.std.specs.Prelude.{ℕ, List, [], ◌∷◌, Bool, false, ◌&&◌, not, Option, Some, None, is_some, slice_get}
use Rattle.std.specs.BTreeMap.{get}
use Rattle.base_types.specs.declared.calls.Value.{Value}
use Rattle.base_types.specs.declared.calls.GrainId.{GrainId}
use Rattle.base_types.specs.declared.calls.UnitNo.{UnitNo}
use Rattle.base_types.specs.declared.shapes.Shape.{Shape}
use Rattle.base_types.specs.declared.shapes.TypeShape.{TypeShape}
use Rattle.base_types.specs.declared.places.Placed.{Placed as PlacedVersion}
use Rattle.base_types.specs.Places.{placed_in}
use Rattle.base_types.specs.Stores.{grain_cmp, state_in}
use Rattle.cell_model.specs.Cells.{Cell, opened}
use Rattle.base_types.specs.Grains.{same_grain}
use Rattle.core_model.specs.Changes.{touched}
use Rattle.cell_model.specs.Units.{same_unit}
use Rattle.core_model.specs.Tests.{any, is_empty, is_single}
use Rattle.grain_cell.specs.Room.{CellInRoom}
use Rattle.activations.specs.LastUsed.{LastUsed, others}
use Rattle.cell_memory.specs.KeptCells.{CellsKept}
use Rattle.cell_table.specs.declared.opening_states.OpeningStates.{OpeningStates}
use Rattle.cell_table.specs.declared.opening_states.OpeningStates.TheVariants.{Stored, Placed}
use Rattle.cell_table.specs.declared.table.CellTable.{CellTable}

-- a type's initial fields, none past the last type
abbrev pub initial_fields : Option TypeShape → List Value
initial_fields None = []
initial_fields (Some t) = t.initial

-- the state that is kept, or else the initial one
abbrev pub state_or : Option (List Value) → List Value → List Value
state_or None initial = initial
state_or (Some state) initial = state

-- the state of the version that is known of a place
abbrev pub known_in : Option PlacedVersion → Option (List Value)
known_in None = None
known_in (Some p) = Some p.known.version.state

-- the state with which a grain opens, where that isn't its type's initial one
abbrev pub opened_in : OpeningStates → GrainId → Option (List Value)
opened_in (Stored store) g = state_in store g
opened_in (Placed places) g = known_in (placed_in places.value g)

-- the state with which a grain opens
abbrev pub opening_state : Shape → OpeningStates → GrainId → List Value
opening_state shape opened g = state_or (opened_in opened g) (initial_fields (slice_get shape.types g.kind))

-- how many of the grains used last stay in memory, whoever uses them; none where every grain does
abbrev pub limit_of : Option LastUsed → Option ℕ
limit_of None = None
limit_of (Some used) = Some used.limit

-- What the cells began with: the state with which each grain opens, and memory's limit.
pub record TableOpening : Type 0 where
  pub states : GrainId → List Value
  pub limit : Option ℕ

-- what a table began with
abbrev pub opens_with : CellTable → TableOpening
opens_with t = record { states = opening_state t.shape t.opened; limit = limit_of t.recent }

-- the grain's cell, where it has one
abbrev pub cell_at : CellTable → GrainId → Option CellInRoom
cell_at t g = get grain_cmp t.cells g

-- the grain has a cell
abbrev pub has_cell : CellTable → GrainId → Bool
has_cell t g = is_some (cell_at t g)

-- The cell of a grain in memory: the one that it has. Without one it isn't in memory, where that has a limit; where it has none, the
-- grain stands for one that nobody has written.
abbrev pub kept_by : Option CellInRoom → Option LastUsed → List Value → Option Cell
kept_by (Some made) recent state = Some made.cell
kept_by None None state = Some (opened state)
kept_by None (Some used) state = None

-- the cells of the grains in memory
abbrev pub cells_kept : CellTable → CellsKept
cells_kept t g = kept_by (cell_at t g) t.recent ((opens_with t).states g)

-- the grain is in memory
abbrev pub here_in : CellTable → GrainId → Bool
here_in t g = is_some (cells_kept t g)

-- a cell that is kept, or that of a grain that nobody has written
abbrev pub cell_or : Option Cell → List Value → Cell
cell_or None state = opened state
cell_or (Some cell) state = cell

-- the cell of each grain, of one that isn't in memory a bare one
abbrev pub cell_in : CellTable → GrainId → Cell
cell_in t g = cell_or (cells_kept t g) ((opens_with t).states g)

-- how many more locks fit into a cell without memory
abbrev pub spare_of : Option CellInRoom → ℕ
spare_of None = 0
spare_of (Some made) = made.spare

-- how many more locks of the grain fit without memory
abbrev pub spare_in : CellTable → GrainId → ℕ
spare_in t g = spare_of (cell_at t g)

-- the grains used last; none are known where memory has no limit
abbrev pub used_of : Option LastUsed → List GrainId
used_of None = []
used_of (Some used) = used.grains

-- those used last, where the grain is used
abbrev pub used_after : GrainId → Option LastUsed → Option LastUsed
used_after g None = None
used_after g (Some used) = Some (record { grains = touched (Some used.limit) g used.grains; limit = used.limit })

-- who is none of them any more where the grain is used
abbrev pub left_after : GrainId → Option LastUsed → Option GrainId
left_after g None = None
left_after g (Some used) = slice_get (g ∷ others g used.grains) used.limit

-- a grain with that cell, which somebody waits for or not, leaves
abbrev pub leaves_where : Option LastUsed → Bool → GrainId → Option Cell → Bool
leaves_where None wanted g cell = false
leaves_where (Some used) wanted g None = false
leaves_where (Some used) wanted g (Some cell) = not (any (same_grain g) used.grains) && (is_empty cell.holds && (is_single cell.stack && not wanted))

-- somebody but the unit waits for the grain
abbrev pub is_other_wait : UnitNo → GrainId → UnitNo × GrainId → Bool
is_other_wait u g t = not (same_unit t.0 u) && same_grain t.1 g
