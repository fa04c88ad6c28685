-- The program of a program file, or where the file is damaged.
use Rattle.std.specs.Prelude.{ℕ, ◌+◌, nat_lt, if◌then◌else◌, List, length, take, drop, Result, Ok, Err}
use Rattle.std.specs.Int.{w32, from_le_bytes}
use Rattle.script_tree.specs.Programs.{ProgramTree}
use Rattle.program_file.specs.declared.faults.ProgramFault.{ProgramFault}
use Rattle.program_file.specs.Programs.{Program, text_limit, program_in, fault_place}

-- Its text, or where the file is damaged: at its length where it is too short for the length field or for the text, and
-- at 0 where the text would be too long.
abbrev pub text_in_file : List ℕ → Result (List ℕ) ℕ
text_in_file file = if nat_lt (length file) 4 then Err (length file) else text_of_size (from_le_bytes w32 (take 4 file)) where
  text_of_size : ℕ → Result (List ℕ) ℕ
  text_of_size size = if nat_lt text_limit size then Err 0 else (if nat_lt (length file) (4 + size) then Err (length file) else Ok (take size (drop 4 file)))

-- a text with its types, or where it is no program
abbrev pub with_types : List ℕ → Result ProgramTree ProgramFault → Result Program ℕ
with_types text (Ok types) = Ok (record { text = text; types = types })
with_types text (Err fault) = Err (4 + fault_place fault)

-- the program of the file, or where the file is damaged: in a text that is no program, at the fault's place
abbrev pub program_in_file : List ℕ → Result Program ℕ
program_in_file file = of_text (text_in_file file) where
  of_text : Result (List ℕ) ℕ → Result Program ℕ
  of_text (Ok text) = with_types text (program_in text)
  of_text (Err place) = Err place

-- how long a text is by its length field, in a file of this length; else where it is damaged
abbrev pub sized : ℕ → ℕ → Result ℕ ℕ
sized end size = if nat_lt text_limit size then Err 0 else (if nat_lt end (4 + size) then Err end else Ok size)
