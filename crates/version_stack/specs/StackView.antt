-- What contracts see of a stack.
use Rattle.std.specs.Prelude.{ℕ, List}
use Rattle.base_types.specs.declared.stores.Version.{Version}

-- the versions, newest first, and how many more of them fit without memory
pub record Stacked : Type 0 where
  pub versions : List Version
  pub spare : ℕ
