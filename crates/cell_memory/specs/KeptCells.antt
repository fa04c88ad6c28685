-- The cells of the grains in memory, as code keeps them, and which cells of the model they stand for.
use Rattle.std.specs.Prelude.{◌≡◌, ℕ, List, [], Option, Some, None, is_some}
use Rattle.cell_model.specs.Cells.{Cell}
use Rattle.core_model.specs.CoreState.{GrainId, Cells}

-- the cell of each grain that is in memory
abbrev pub CellsKept : Type 0
CellsKept = GrainId → Option Cell

-- the model's cell of the grain is that one
pub record IsCell (c : Cells) (g : GrainId) (x : Cell) : Type 0 where
  pub stack : c.stack g ≡ x.stack
  pub holds : c.holds g ≡ x.holds
  pub readings : c.readings g ≡ x.readings

-- What is kept stands for the model's cells: those in memory are there as they are, nobody has a lock of another grain, and what
-- the model knows of its stack is nobody's to see. Memory has that limit, if it has one, and these grains were used last.
pub record StandsForCells (limit : Option ℕ) (cell : CellsKept) (recent : List GrainId) (c : Cells) : Type 0 where
  pub capacity : c.capacity ≡ limit
  pub used : c.recent ≡ recent
  pub here : (g : GrainId) → c.here g ≡ is_some (cell g)
  pub there : (g : GrainId) (x : Cell) → cell g ≡ Some x → IsCell c g x
  pub away : (g : GrainId) → cell g ≡ None → (c.holds g ≡ []) × (c.readings g ≡ [])
