-- What stands of the grains' states under the program in force.
use Rattle.std.specs.Prelude.{◌≡◌, false, length}
use Rattle.base_types.specs.declared.calls.GrainId.{GrainId}
use Rattle.script_check.specs.Carrying.{fields_of_kind}
use Rattle.promise_spec.specs.Entries.{Standing, initial_states}

-- the grains that have no state in the store have the initial fields of the program in force
abbrev pub AreOthersInitial : Standing → Type 0
AreOthersInitial s = (grain : GrainId) → s.held grain ≡ false → s.states grain ≡ initial_states s.program grain

-- each grain's state has as many values as its type has fields in the program in force
abbrev pub HaveTheirFields : Standing → Type 0
HaveTheirFields s = (grain : GrainId) → length (s.states grain) ≡ length (fields_of_kind s.program.types grain.kind)
