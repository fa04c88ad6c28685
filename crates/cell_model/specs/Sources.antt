-- The sources that a unit depends on, oldest first, each once.
use Rattle.std.specs.Prelude.{List, [], ◌∷◌, Bool, Option, nat_lt, if◌then◌else◌, find}
use Rattle.std.specs.List.{list_any as any}
use Rattle.cell_model.specs.Units.{UnitNo, same_unit}

-- the unit is in the list
abbrev pub is_among : List UnitNo → UnitNo → Bool
is_among units unit = any (λ u. same_unit u unit) units

-- the sources with one more, in its place
abbrev pub with_source : List UnitNo → UnitNo → List UnitNo
with_source [] unit = unit ∷ []
with_source (x ∷ xs) unit =
    if same_unit x unit then x ∷ xs else if nat_lt unit.0 x.0 then unit ∷ x ∷ xs else x ∷ with_source xs unit

-- the oldest source that is among the aborted, none where there is none
abbrev pub first_aborted : List UnitNo → List UnitNo → Option UnitNo
first_aborted sources aborted = find (is_among aborted) sources
