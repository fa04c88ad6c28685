-- What becomes of a store when a program comes into force.
use Rattle.std.specs.Prelude.{◌≡◌, List, Option, Some, option_map}
use Rattle.std.specs.List.{AllByRecursion}
use Rattle.base_types.specs.declared.calls.GrainId.{GrainId}
use Rattle.base_types.specs.declared.calls.Value.{Value}
use Rattle.base_types.specs.declared.stores.Store.{Store}
use Rattle.base_types.specs.Stores.{state_in}
use Rattle.script_tree.specs.Programs.{ProgramTree}
use Rattle.script_check.specs.Carrying.{carried_state}
use Rattle.program_file.specs.ProgramsInTurn.{HasItsFields}

-- each state in the store has the fields of its grain's type, which is one of the program's
abbrev pub StoreFits : ProgramTree → Store → Type 0
StoreFits types store = (grain : GrainId) (state : List Value) → state_in store grain ≡ Some state → HasItsFields types grain state

-- each of these states has them
abbrev pub AreOfProgram : ProgramTree → List (GrainId × List Value) → Type 0
AreOfProgram types writes = AllByRecursion (λ (w : GrainId × List Value). HasItsFields types w.0 w.1) writes

-- the state that a grain has under the new program, none where it has none
abbrev pub carried_in : ProgramTree → ProgramTree → Store → GrainId → Option (List Value)
carried_in old new store grain = option_map (carried_state old new grain.kind) (state_in store grain)
