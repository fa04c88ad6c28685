-- The programs of a log that a writer knows.
use Rattle.std.specs.Prelude.{◌≡◌, ◌<◌, ◌-◌, ℕ, List, length, map, Option, Some, None, slice_get}
use Rattle.base_types.specs.declared.calls.GrainId.{GrainId}
use Rattle.base_types.specs.declared.calls.Value.{Value}
use Rattle.script_tree.specs.Programs.{ProgramTree, program_tree}
use Rattle.script_check.specs.Carrying.{fields_of_kind}
use Rattle.program_file.specs.Succession.{shapes_in_turn}
use Rattle.program_file.specs.declared.programs_in_turn.ProgramsInTurn.{ProgramsInTurn}

-- their types, in the order in which they came into force
abbrev pub programs_in : ProgramsInTurn → List ProgramTree
programs_in known = map program_tree known.checked

-- the number of the one in force: the last
abbrev pub newest_in : ProgramsInTurn → ℕ
newest_in known = length known.checked - 1

-- what is kept of each for the files is its shape
abbrev pub HasShapes : ProgramsInTurn → Type 0
HasShapes known = known.shapes ≡ shapes_in_turn (programs_in known)

-- the state has the fields of the grain's type, which is one of the program's
pub record HasItsFields (types : ProgramTree) (g : GrainId) (state : List Value) : Type 0 where
  pub kind : g.kind < length types
  pub fields : length state ≡ length (fields_of_kind types g.kind)

-- so it has by the program of a number
abbrev pub HasFieldsBy : Option ProgramTree → GrainId → List Value → Type 0
HasFieldsBy None g state = ⊥
HasFieldsBy (Some types) g state = HasItsFields types g state

abbrev pub HasFieldsUnder : List ProgramTree → ℕ → GrainId → List Value → Type 0
HasFieldsUnder programs number g state = HasFieldsBy (slice_get programs number) g state
