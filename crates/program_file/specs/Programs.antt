-- Programs of silos, and which texts are programs.
use Rattle.std.specs.Prelude.{◌≡◌, ℕ, ◌≤◌, List, length, Option, None, Some, Result, Ok, Err}
use Rattle.base_types.specs.declared.shapes.Shape.{Shape}
use Rattle.script_tree.specs.Programs.{ProgramTree}
use Rattle.script_lexer.specs.declared.faults.ParseFault.{ParseFault}
use Rattle.script_lexer.specs.declared.faults.ParseFault.TheVariants.{BadToken, Unexpected, TooDeep, Memory}
use Rattle.script_parser.specs.Programs.{program_of}
use Rattle.script_scopes.specs.declared.faults.CheckFault.{CheckFault}
use Rattle.script_scopes.specs.declared.faults.CheckFault.TheVariants as check
use Rattle.script_check.specs.Programs.{program_fault}
use Rattle.script_check.specs.Shapes.{type_shapes}
use Rattle.program_file.specs.declared.faults.ProgramFault.{ProgramFault}
use Rattle.program_file.specs.declared.faults.ProgramFault.TheVariants.{Unparsed, Unchecked}

-- a program's text, and its types
pub record Program : Type 0 where
  pub text : List ℕ
  pub types : ProgramTree

-- the most bytes that a program's text has
abbrev pub text_limit : ℕ
text_limit = 262144

-- the types are those of the text, which has at most 262,144 bytes, and nothing is at fault in them
pub record IsChecked (p : Program) : Type 0 where
  pub small : length p.text ≤ text_limit
  pub parsed : program_of p.text ≡ Ok p.types
  pub checked : program_fault p.types ≡ None

-- its types' names, initial fields and numbers of parameters
abbrev pub shape_in : Program → Shape
shape_in p = record { types = type_shapes p.types }

-- where a text isn't in the grammar (want of memory has no place, and isn't in the text)
abbrev pub parse_place : ParseFault → ℕ
parse_place (BadToken at) = at
parse_place (Unexpected at) = at
parse_place (TooDeep at) = at
parse_place Memory = 0

-- where something is at fault
abbrev pub check_place : CheckFault → ℕ
check_place (check.UnknownName at) = at
check_place (check.TwiceNamed at) = at
check_place (check.Arity at) = at
check_place (check.FieldInPlain at) = at
check_place (check.SetInRead at) = at
check_place (check.TooMany at) = at
check_place (check.NeedsTransaction at) = at
check_place check.Memory = 0

-- the place in the text
abbrev pub fault_place : ProgramFault → ℕ
fault_place (Unparsed fault) = parse_place fault
fault_place (Unchecked fault) = check_place fault

-- these types, unless something is at fault in them
abbrev pub unless_fault : ProgramTree → Option CheckFault → Result ProgramTree ProgramFault
unless_fault types None = Ok types
unless_fault types (Some fault) = Err (Unchecked fault)

-- the types that were parsed, where nothing is at fault in them, or else the first fault
abbrev pub checked_in : Result ProgramTree ParseFault → Result ProgramTree ProgramFault
checked_in (Ok types) = unless_fault types (program_fault types)
checked_in (Err fault) = Err (Unparsed fault)

-- the types of a text, or its first fault
abbrev pub program_in : List ℕ → Result ProgramTree ProgramFault
program_in text = checked_in (program_of text)
