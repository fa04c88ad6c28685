-- The names in scope, as the code holds them.
use Rattle.std.specs.Prelude.{ℕ, List}
use denote.Ref.{Bor}

-- the names in scope, the first declared first
pub record NamesInScope : Type 0 where
  pub items : List (Bor (List ℕ))
