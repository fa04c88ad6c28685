-- What contracts see of a set of sources.
use Rattle.std.specs.Prelude.{ℕ, List}
use Rattle.cell_model.specs.Units.{UnitNo}

-- the sources, ascending, and how many more of them fit without memory
pub record SourcesInRoom : Type 0 where
  pub sources : List UnitNo
  pub spare : ℕ
