-- The versions of one grain, newest first. The opening state is the version of nobody.
use Rattle.std.specs.Prelude.{List, [], ◌∷◌, Bool, if◌then◌else◌}
use Rattle.std.specs.List.{list_any as any}
pub use Rattle.base_types.specs.declared.stores.Version.{Version}
use Rattle.base_types.specs.declared.calls.Value.{Value}
use Rattle.cell_model.specs.Units.{UnitNo, nobody, same_unit}

-- the version is the unit's
abbrev pub is_of : UnitNo → Version → Bool
is_of unit x = same_unit x.unit unit

-- the newest version; an empty stack has nobody's, without fields
abbrev pub top : List Version → Version
top [] = record { unit = nobody; state = [] }
top (x ∷ xs) = x

-- the stack with the unit's new version on top
abbrev pub pushed : List Version → UnitNo → List Value → List Version
pushed stack unit state = record { unit = unit; state = state } ∷ stack

-- what stands under the unit's version is dropped, and nothing where it has none
abbrev pub committed_stack : UnitNo → List Version → List Version
committed_stack unit [] = []
committed_stack unit (x ∷ xs) = if is_of unit x then x ∷ [] else x ∷ committed_stack unit xs

-- the lowest version that meets the test, and all above it, are taken off
abbrev pub cut : (Version → Bool) → List Version → List Version
cut test [] = []
cut test (x ∷ xs) = if any test (x ∷ xs) then cut test xs else x ∷ xs

-- the unit's version, and all above it, are taken off
abbrev pub removed : UnitNo → List Version → List Version
removed unit stack = cut (is_of unit) stack

-- the unit has a version in the stack
abbrev pub has_version : UnitNo → List Version → Bool
has_version unit stack = any (is_of unit) stack
