-- The program in force at a place of a log, as a report has it.
use Rattle.std.specs.Prelude.{◌≡◌, List}
use Rattle.log_reading.specs.Entries.{BodyEntry, Recorded, Upgraded, entry_said}
use Rattle.log_reading.specs.declared.bodies.Said.{Said}
use Rattle.log_reading.specs.Blocks.{ReadEntry, entries_said}
use Rattle.script_tree.specs.Programs.{ProgramTree, program_tree}
use Rattle.script_check.specs.Shapes.{type_shapes}
use Rattle.log_audit.specs.declared.in_force.InForce.{InForce}

-- its types
abbrev pub types_in_force : InForce → ProgramTree
types_in_force now = program_tree now.checked

-- its shape is that of its types
abbrev pub HasShape : InForce → Type 0
HasShape now = now.shape ≡ record { types = type_shapes (types_in_force now) }

-- the types of the program in force behind what a block says
abbrev pub types_behind : ProgramTree → BodyEntry → ProgramTree
types_behind types (Recorded records) = types
types_behind types (Upgraded q) = q.types

-- and behind what was read of it
abbrev pub types_said : InForce → Said → ProgramTree
types_said now said = types_behind (types_in_force now) (entry_said said)

-- the entries of what was read of a block
abbrev pub said_entries : Said → List ReadEntry
said_entries said = entries_said (entry_said said)
