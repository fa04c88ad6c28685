-- Reading one token.
use Rattle.std.specs.Prelude.{ℕ, List, [], ◌∷◌, Bool, false, Option, Some, None, Ok, Err, nat_eq, if◌then◌else◌}
use Rattle.script_tree.specs.declared.expressions.Name.{Name}
use Rattle.script_lexer.specs.declared.faults.ParseFault.{ParseFault}
use Rattle.script_lexer.specs.declared.faults.ParseFault.TheVariants.{Unexpected}
use Rattle.script_lexer.specs.declared.tokens.Spanned.{Spanned}
use Rattle.script_lexer.specs.declared.tokens.Token.{Token}
use Rattle.script_lexer.specs.declared.tokens.Token.TheVariants as token
use Rattle.script_lexer.specs.declared.tokens.Symbol.{Symbol}
use Rattle.script_lexer.specs.declared.tokens.Symbol.TheVariants as symbol
use Rattle.script_lexer.specs.declared.tokens.Word.{Word}
use Rattle.script_lexer.specs.declared.tokens.Word.TheVariants as word
use Rattle.script_expressions.specs.TokenReaders.{Read}

-- a number of its own for each symbol and each word
abbrev pub symbol_number : Symbol → ℕ
symbol_number symbol.LeftBrace = 0
symbol_number symbol.RightBrace = 1
symbol_number symbol.LeftParen = 2
symbol_number symbol.RightParen = 3
symbol_number symbol.Semicolon = 4
symbol_number symbol.Comma = 5
symbol_number symbol.Dot = 6
symbol_number symbol.Assign = 7
symbol_number symbol.Plus = 8
symbol_number symbol.Minus = 9
symbol_number symbol.Star = 10
symbol_number symbol.Slash = 11
symbol_number symbol.Percent = 12
symbol_number symbol.Less = 13
symbol_number symbol.Greater = 14
symbol_number symbol.LessEqual = 15
symbol_number symbol.GreaterEqual = 16
symbol_number symbol.Equal = 17
symbol_number symbol.NotEqual = 18
symbol_number symbol.And = 19
symbol_number symbol.Or = 20
symbol_number symbol.Not = 21

-- the number by which words are told apart
abbrev pub word_number : Word → ℕ
word_number word.Type = 0
word_number word.Field = 1
word_number word.Method = 2
word_number word.Let = 3
word_number word.Set = 4
word_number word.If = 5
word_number word.Else = 6
word_number word.While = 7
word_number word.Return = 8
word_number word.Fail = 9
word_number word.Call = 10
word_number word.Attempt = 11
word_number word.Key = 12

-- the token is this symbol
abbrev pub is_symbol : Symbol → Token → Bool
is_symbol s (token.Symbol r) = nat_eq (symbol_number s) (symbol_number r)
is_symbol s (token.Name n) = false
is_symbol s (token.Word w) = false
is_symbol s (token.Int n) = false
is_symbol s (token.Text t) = false

-- the token is this word
abbrev pub is_word : Word → Token → Bool
is_word w (token.Word r) = nat_eq (word_number w) (word_number r)
is_word w (token.Symbol s) = false
is_word w (token.Name n) = false
is_word w (token.Int n) = false
is_word w (token.Text t) = false

-- what is answered where what stands next can't follow: its place, or what ends the tokens
abbrev pub refused_token : ParseFault → List Spanned → ParseFault
refused_token stop [] = stop
refused_token stop (t ∷ ts) = Unexpected t.at

-- a symbol that must stand next: its place
unfoldable pub expected : ParseFault → Symbol → Read ℕ
expected stop s [] = Err stop
expected stop s (t ∷ ts) = if is_symbol s t.token then Ok (t.at, ts) else Err (Unexpected t.at)

-- a word that must stand next: its place
unfoldable pub expected_word : ParseFault → Word → Read ℕ
expected_word stop w [] = Err stop
expected_word stop w (t ∷ ts) = if is_word w t.token then Ok (t.at, ts) else Err (Unexpected t.at)

-- the name that a token at a place is
abbrev pub name_from : Token → ℕ → Read Name
name_from (token.Name s) at ts = Ok (record { text = s; at = at }, ts)
name_from (token.Word w) at ts = Err (Unexpected at)
name_from (token.Int n) at ts = Err (Unexpected at)
name_from (token.Text s) at ts = Err (Unexpected at)
name_from (token.Symbol s) at ts = Err (Unexpected at)

-- a name that must stand next
unfoldable pub name_at : ParseFault → Read Name
name_at stop [] = Err stop
name_at stop (t ∷ ts) = name_from t.token t.at ts

-- the text that a token at a place is
abbrev pub text_from : Token → ℕ → Read (List ℕ)
text_from (token.Text s) at ts = Ok (s, ts)
text_from (token.Name s) at ts = Err (Unexpected at)
text_from (token.Word w) at ts = Err (Unexpected at)
text_from (token.Int n) at ts = Err (Unexpected at)
text_from (token.Symbol s) at ts = Err (Unexpected at)

-- a text that must stand next
unfoldable pub spelling_at : ParseFault → Read (List ℕ)
spelling_at stop [] = Err stop
spelling_at stop (t ∷ ts) = text_from t.token t.at ts

-- the tokens after a symbol, where it stands next
unfoldable pub taken : Symbol → List Spanned → Option (List Spanned)
taken s [] = None
taken s (t ∷ ts) = if is_symbol s t.token then Some ts else None

-- the tokens after a word, where it stands next
unfoldable pub taken_word : Word → List Spanned → Option (List Spanned)
taken_word w [] = None
taken_word w (t ∷ ts) = if is_word w t.token then Some ts else None
