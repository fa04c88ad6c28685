-- The names of parameters and locals.
use Rattle.std.specs.Prelude.{ℕ, List, map}
use Rattle.script_values.specs.declared.locals.Local.{Local}

-- the names, in their order
abbrev pub names_of : List Local → List (List ℕ)
names_of locals = map (λ l. l.name) locals
