-- What the lines of an input read as.
use Rattle.std.specs.Prelude.{ℕ, ◌+◌, List, [], ◌∷◌}
use Rattle.request_wire.specs.declared.requests.Line.{Line}
use Rattle.request_wire.specs.Lines.{lines_of}
use Rattle.request_wire.specs.Names.{names_in}
use Rattle.request_wire.specs.Request.{call_of}
use Rattle.script_tree.specs.Programs.{ProgramTree}

-- the line of a text: its number, and the call that the text asks for, or the first test that it fails
abbrev pub line_from_text : ProgramTree → ℕ → List ℕ → Line
line_from_text types number text = record { number = number; what = call_of (names_in types) text }

-- the lines of these texts, numbered one after another from the one behind this number on
abbrev pub lines_from_texts : ProgramTree → ℕ → List (List ℕ) → List Line
lines_from_texts types n [] = []
lines_from_texts types n (text ∷ texts) = line_from_text types (n + 1) text ∷ lines_from_texts types (n + 1) texts

-- the lines of an input, numbered from 1
abbrev pub input_lines : ProgramTree → List ℕ → List Line
input_lines types input = lines_from_texts types 0 (lines_of input)
