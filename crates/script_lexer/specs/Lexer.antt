-- The tokens of a text.
use Rattle.std.specs.Prelude.{ℕ, zero, suc, ◌+◌, List, [], ◌∷◌, ◌++◌, length, take, nat_lt, if◌then◌else◌}
use Rattle.std.specs.Str.Lossy.{utf8_valid_len}
use Rattle.script_lexer.specs.declared.faults.ParseFault.{ParseFault}
use Rattle.script_lexer.specs.declared.faults.ParseFault.TheVariants.{BadToken, Unexpected}
use Rattle.script_lexer.specs.declared.lexemes.Lexeme.{Lexeme}
use Rattle.script_lexer.specs.declared.lexemes.Lexeme.TheVariants.{Gap, Whole, Bad}
use Rattle.script_lexer.specs.declared.tokens.Spanned.{Spanned}
use Rattle.script_lexer.specs.Lexemes.{lexeme}

-- tokens in order, and what is answered where a further one is wanted
abbrev pub TokensAndStop : Type 0
TokensAndStop = List Spanned × ParseFault

-- tokens that stand before others
abbrev pub in_front : List Spanned → TokensAndStop → TokensAndStop
in_front front found = (front ++ found.0, found.1)

-- what a place gives, where `rest_after` gives what follows so many more bytes
abbrev pub lex_step : ℕ → (ℕ → TokensAndStop) → Lexeme → TokensAndStop
lex_step at rest_after (Gap more) = rest_after more
lex_step at rest_after (Whole t more) = (record { token = t; at = at } ∷ (rest_after more).0, (rest_after more).1)
lex_step at rest_after Bad = ([], BadToken at)

-- The tokens of the bytes from a place on, up to the first at which nothing begins; `stop` is what the bytes' end gives. The second number counts the bytes that the last lexeme still has.
unfoldable pub lex : ParseFault → ℕ → ℕ → List ℕ → TokensAndStop
lex stop at n [] = ([], stop)
lex stop at (suc n) (b ∷ bs) = lex stop (at + 1) n bs
lex stop at zero (b ∷ bs) = lex_step at (λ more. lex stop (at + 1) more bs) (lexeme b bs)

-- what the end of the bytes that are UTF-8 gives: the text's length, or the first byte that isn't UTF-8
abbrev pub end_of : ℕ → ℕ → ParseFault
end_of len valid = if nat_lt valid len then BadToken valid else Unexpected len

-- the tokens of a text, read over its longest front that is UTF-8
unfoldable pub lexed : List ℕ → TokensAndStop
lexed text = lex (end_of (length text) (utf8_valid_len text)) 0 0 (take (utf8_valid_len text) text)
