-- What stands at a place: what is passed over, or a token, with how many bytes it has after its first.
use Rattle.std.specs.Prelude.{ℕ, ◌+◌, ◌-◌, ◌^◌, List, [], ◌∷◌, length, take, drop, Bool, false, ◌&&◌, Option, Some, None, nat_eq, nat_lt, nat_le, if◌then◌else◌, pos, bytes_eq}
use Rattle.std.specs.List.{prefix_len, find, starts_with}
use Rattle.std.specs.Option.{option_map}
use Rattle.script_lexer.specs.declared.lexemes.TheConstants.{WORDS, SYMBOLS}
use Rattle.script_lexer.specs.declared.lexemes.Lexeme.{Lexeme}
use Rattle.script_lexer.specs.declared.lexemes.Lexeme.TheVariants.{Gap, Whole, Bad}
use Rattle.script_lexer.specs.declared.tokens.Token.{Token}
use Rattle.script_lexer.specs.declared.tokens.Token.TheVariants as token
use Rattle.script_lexer.specs.declared.tokens.Symbol.{Symbol}
use Rattle.script_lexer.specs.declared.tokens.Word.{Word}
use Rattle.script_lexer.specs.Spellings.{is_blank, is_letter, is_digit, in_name, in_line, in_text, word_spelling, symbol_spelling, number_from}

-- the reserved word that a name is
abbrev pub word_named : List ℕ → Option Word
word_named name = option_map (λ w. w) (find (λ w. bytes_eq (word_spelling w) name) WORDS)

-- the first symbol that the bytes begin with
abbrev pub symbol_at : List ℕ → Option Symbol
symbol_at bytes = option_map (λ s. s) (find (λ s. starts_with nat_eq bytes (symbol_spelling s)) SYMBOLS)

-- a reserved word or a name
abbrev pub name_token : Option Word → List ℕ → Token
name_token (Some w) name = token.Word w
name_token None name = token.Name name

-- a letter with the letters, digits and `_` after it
unfoldable pub name_lexeme : ℕ → List ℕ → Lexeme
name_lexeme b bs =
    let more = prefix_len in_name bs in
    let name = b ∷ take more bs in
    if nat_lt more 32 then Whole (name_token (word_named name) name) more else Bad

-- a digit with the digits after it
unfoldable pub number_lexeme : ℕ → List ℕ → Lexeme
number_lexeme b bs =
    let more = prefix_len is_digit bs in
    let value = number_from (b - 48) (take more bs) in
    if nat_lt value (2 ^ 63) then Whole (token.Int (pos value)) more else Bad

-- a quote stands next
abbrev pub closes : List ℕ → Bool
closes [] = false
closes (b ∷ bs) = nat_eq b 34

-- the bytes after a quote, up to the next
unfoldable pub text_lexeme : List ℕ → Lexeme
text_lexeme bs =
    let len = prefix_len in_text bs in
    if closes (drop len bs) && nat_le len 4096 then Whole (token.Text (take len bs)) (len + 1) else Bad

-- a symbol that is there
abbrev pub symbol_found : Option Symbol → Lexeme
symbol_found (Some s) = Whole (token.Symbol s) (length (symbol_spelling s) - 1)
symbol_found None = Bad

-- the longest symbol
unfoldable pub symbol_lexeme : List ℕ → Lexeme
symbol_lexeme bytes = symbol_found (symbol_at bytes)

-- what begins with this byte, before those bytes
unfoldable pub lexeme : ℕ → List ℕ → Lexeme
lexeme b bs =
    if is_blank b then Gap 0 else
    if nat_eq b 35 then Gap (prefix_len in_line bs) else
    if is_letter b then name_lexeme b bs else
    if nat_eq b 48 then Whole (token.Int (pos 0)) 0 else
    if is_digit b then number_lexeme b bs else
    if nat_eq b 34 then text_lexeme bs else symbol_lexeme (b ∷ bs)

-- how many bytes it has after its first
abbrev pub length_behind : Lexeme → ℕ
length_behind (Gap more) = more
length_behind (Whole t more) = more
length_behind Bad = 0
