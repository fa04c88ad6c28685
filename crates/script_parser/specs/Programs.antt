-- The program that a text is.
use Rattle.std.specs.Prelude.{ℕ, List, [], ◌∷◌, length, Result, Ok, Err}
use Rattle.script_tree.specs.Programs.{ProgramTree}
use Rattle.script_lexer.specs.declared.faults.ParseFault.{ParseFault}
use Rattle.script_lexer.specs.declared.faults.ParseFault.TheVariants.{BadToken, Unexpected, TooDeep, Memory}
use Rattle.script_lexer.specs.declared.tokens.Spanned.{Spanned}
use Rattle.script_lexer.specs.declared.tokens.Word.TheVariants as word
use Rattle.script_lexer.specs.Lexer.{lexed}
use Rattle.script_expressions.specs.TokenReaders.{◌>>=◌}
use Rattle.script_parser.specs.Types.{repeated, type_at}

-- nothing follows: the tokens are used up, and they end where the text does
abbrev pub at_text_end : ParseFault → List Spanned → Result (Unit {0}) ParseFault
at_text_end stop (t ∷ ts) = Err (Unexpected t.at)
at_text_end (Unexpected at) [] = Ok tt
at_text_end (BadToken at) [] = Err (BadToken at)
at_text_end (TooDeep at) [] = Err (TooDeep at)
at_text_end Memory [] = Err Memory

-- the program that tokens are, up to what ends them
unfoldable pub program_over : ParseFault → List Spanned → Result ProgramTree ParseFault
program_over stop ts = do
  types ← repeated word.Type (type_at stop 32) (length ts) ts
  end ← at_text_end stop types.1
  Ok types.0

-- the program that a text is
abbrev pub program_of : List ℕ → Result ProgramTree ParseFault
program_of text = program_over (lexed text).1 (lexed text).0
