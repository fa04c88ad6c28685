-- Programs that came into force one after the other, by their numbers, from 0, that of the first: the shape of each, and what a state of
-- its time means under the last.
use Rattle.std.specs.Prelude.{◌≤◌, ◌^◌, ◌+◌, ℕ, List, [], ◌∷◌, length, map, drop, Option, Some, None, slice_get}
use Rattle.base_types.specs.declared.calls.GrainId.{GrainId}
use Rattle.base_types.specs.declared.calls.Value.{Value}
use Rattle.base_types.specs.declared.shapes.Shape.{Shape}
use Rattle.base_types.specs.declared.stores.Version.{Version}
use Rattle.script_tree.specs.Programs.{ProgramTree}
use Rattle.script_check.specs.Shapes.{type_shapes}
use Rattle.script_check.specs.Comparison.{GoOnInTurn, last_program}
use Rattle.script_check.specs.Carrying.{carried_along}

-- there is one at least, and each goes on from the one before it
abbrev pub AreInTurn : List ProgramTree → Type 0
AreInTurn [] = ⊥
AreInTurn (first ∷ later) = GoOnInTurn first later

-- so they are, and each has a number
pub record ArePrograms (programs : List ProgramTree) : Type 0 where
  pub in_turn : AreInTurn programs
  pub few : length programs ≤ 2 ^ 32

-- the last of them, which is in force
abbrev pub newest_program : List ProgramTree → ProgramTree
newest_program [] = []
newest_program (first ∷ later) = last_program first later

-- what the files need to know of each
abbrev pub shapes_in_turn : List ProgramTree → List Shape
shapes_in_turn programs = map (λ types. record { types = type_shapes types }) programs

-- a state of a type, carried from this program to each of these in turn
abbrev pub carried_on : Option ProgramTree → List ProgramTree → ℕ → List Value → List Value
carried_on None later kind state = state
carried_on (Some types) later kind state = carried_along types later kind state

-- what a state of a type that was written under the program of a number means under the last: it is carried to each later one in turn
abbrev pub carried_from : List ProgramTree → ℕ → ℕ → List Value → List Value
carried_from programs number kind state = carried_on (slice_get programs number) (drop (number + 1) programs) kind state

-- so does a version of a grain
abbrev pub version_meant : List ProgramTree → ℕ → GrainId → Version → Version
version_meant programs number g v = record { unit = v.unit; state = carried_from programs number g.kind v.state }
