-- A run that is asked further lines.
use Rattle.std.specs.Prelude.{ℕ, List, ◌++◌}
use Rattle.promise_spec.specs.UnitRule.{Basis}

-- what the unit rule is told, with further lines behind those so far
abbrev pub with_lines : Basis → List (List ℕ) → Basis
with_lines s more = record s { lines = s.lines ++ more }
