-- Bytes, and how words and symbols are spelled.
use Rattle.std.specs.Prelude.{ℕ, ◌+◌, ◌-◌, ◌*◌, List, [], ◌∷◌, Bool, not, ◌&&◌, ◌||◌, nat_eq, nat_le, codes}
use Rattle.script_lexer.specs.declared.tokens.Symbol.{Symbol}
use Rattle.script_lexer.specs.declared.tokens.Symbol.TheVariants as symbol
use Rattle.script_lexer.specs.declared.tokens.Word.{Word}
use Rattle.script_lexer.specs.declared.tokens.Word.TheVariants as word

-- space, tab, carriage return, line feed
abbrev pub is_blank : ℕ → Bool
is_blank b = nat_eq b 32 || nat_eq b 9 || nat_eq b 13 || nat_eq b 10

-- `a` to `z`
abbrev pub is_letter : ℕ → Bool
is_letter b = nat_le 97 b && nat_le b 122

-- `0` to `9`
abbrev pub is_digit : ℕ → Bool
is_digit b = nat_le 48 b && nat_le b 57

-- what a name goes on with: a letter, a digit or `_`
abbrev pub in_name : ℕ → Bool
in_name b = is_letter b || is_digit b || nat_eq b 95

-- what a comment goes on with: all but a line feed
abbrev pub in_line : ℕ → Bool
in_line b = not (nat_eq b 10)

-- what a text has: no quote, no backslash, nothing below a space
abbrev pub in_text : ℕ → Bool
in_text b = nat_le 32 b && not (nat_eq b 34) && not (nat_eq b 92)

-- the letters of a reserved word
abbrev pub word_spelling : Word → List ℕ
word_spelling word.Type = codes "type"
word_spelling word.Field = codes "field"
word_spelling word.Method = codes "method"
word_spelling word.Let = codes "let"
word_spelling word.Set = codes "set"
word_spelling word.If = codes "if"
word_spelling word.Else = codes "else"
word_spelling word.While = codes "while"
word_spelling word.Return = codes "return"
word_spelling word.Fail = codes "fail"
word_spelling word.Call = codes "call"
word_spelling word.Attempt = codes "attempt"
word_spelling word.Key = codes "key"

-- the bytes of a symbol
abbrev pub symbol_spelling : Symbol → List ℕ
symbol_spelling symbol.LeftBrace = codes "{"
symbol_spelling symbol.RightBrace = codes "}"
symbol_spelling symbol.LeftParen = codes "("
symbol_spelling symbol.RightParen = codes ")"
symbol_spelling symbol.Semicolon = codes ";"
symbol_spelling symbol.Comma = codes ","
symbol_spelling symbol.Dot = codes "."
symbol_spelling symbol.Assign = codes "="
symbol_spelling symbol.Plus = codes "+"
symbol_spelling symbol.Minus = codes "-"
symbol_spelling symbol.Star = codes "*"
symbol_spelling symbol.Slash = codes "/"
symbol_spelling symbol.Percent = codes "%"
symbol_spelling symbol.Less = codes "<"
symbol_spelling symbol.Greater = codes ">"
symbol_spelling symbol.LessEqual = codes "<="
symbol_spelling symbol.GreaterEqual = codes ">="
symbol_spelling symbol.Equal = codes "=="
symbol_spelling symbol.NotEqual = codes "!="
symbol_spelling symbol.And = codes "&&"
symbol_spelling symbol.Or = codes "||"
symbol_spelling symbol.Not = codes "!"

-- the number that decimal digits after a number make
abbrev pub number_from : ℕ → List ℕ → ℕ
number_from n [] = n
number_from n (d ∷ ds) = number_from (10 * n + (d - 48)) ds
