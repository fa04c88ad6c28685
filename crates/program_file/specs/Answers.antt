-- What a reading of a text or of the program file answers. Want of memory may come in place of any answer.
use Rattle.std.specs.Prelude.{◌≡◌, ℕ, ◌+◌, List, Option, Some, None, Result, Ok, Err}
use Rattle.host_trait.specs.declared.channels.Channel.{Channel}
use Rattle.host_trait.specs.declared.channels.Channel.TheVariants.{File}
use Rattle.host_trait.specs.Faults.{NoneFailed, FailedOn}
use Rattle.script_tree.specs.Programs.{program_tree}
use Rattle.script_tree.specs.declared.programs.Program.{Program as Tree}
use Rattle.script_lexer.specs.declared.faults.ParseFault.{ParseFault}
use Rattle.script_lexer.specs.declared.faults.ParseFault.TheVariants.{BadToken, Unexpected, TooDeep, Memory}
use Rattle.script_scopes.specs.declared.faults.CheckFault.{CheckFault}
use Rattle.script_scopes.specs.declared.faults.CheckFault.TheVariants as check
use Rattle.program_file.specs.declared.faults.ProgramFault.{ProgramFault}
use Rattle.program_file.specs.declared.faults.ProgramFault.TheVariants.{Unparsed, Unchecked}
use Rattle.program_file.specs.declared.faults.ProgramFileFault.{ProgramFileFault}
use Rattle.program_file.specs.Programs.{program_in}
use Rattle.host_trait.specs.declared.channels.FileId.TheVariants.{Program as ProgramFile}

-- the place that a parse names, none where memory ran out
abbrev pub parse_named : ParseFault → Option ℕ
parse_named (BadToken at) = Some at
parse_named (Unexpected at) = Some at
parse_named (TooDeep at) = Some at
parse_named Memory = None

-- the place that a check names, none where memory ran out
abbrev pub check_named : CheckFault → Option ℕ
check_named (check.UnknownName at) = Some at
check_named (check.TwiceNamed at) = Some at
check_named (check.Arity at) = Some at
check_named (check.FieldInPlain at) = Some at
check_named (check.SetInRead at) = Some at
check_named (check.TooMany at) = Some at
check_named (check.NeedsTransaction at) = Some at
check_named check.Memory = None

-- the place in the text that a fault names, none where memory ran out
abbrev pub program_fault_place : ProgramFault → Option ℕ
program_fault_place (Unparsed fault) = parse_named fault
program_fault_place (Unchecked fault) = check_named fault

-- where a place is named, the text is no program for this fault
abbrev pub IsFaultOf : List ℕ → ProgramFault → Option ℕ → Type 0
IsFaultOf text fault None = Unit {0}
IsFaultOf text fault (Some place) = program_in text ≡ Err fault

-- the answer is what the text is, unless memory ran out
abbrev pub Accepts : Result Tree ProgramFault → List ℕ → Type 0
Accepts (Ok program) text = program_in text ≡ Ok (program_tree program)
Accepts (Err fault) text = IsFaultOf text fault (program_fault_place fault)

-- the fault of a program file whose text is no program, at a place of the text
abbrev pub damage : Option ℕ → ProgramFileFault
damage None = ProgramFileFault.Memory
damage (Some place) = ProgramFileFault.Damaged (4 + place)

-- a call on the slot's program file failed where `Failed` is answered, and none did where another fault is
abbrev pub FileFaulted : ℕ → ProgramFileFault → (Channel → ℕ) → (Channel → ℕ) → Type 0
FileFaulted slot (ProgramFileFault.Damaged place) old new = NoneFailed old new
FileFaulted slot ProgramFileFault.Failed old new = FailedOn (File (ProgramFile slot)) old new
FileFaulted slot ProgramFileFault.Memory old new = NoneFailed old new
