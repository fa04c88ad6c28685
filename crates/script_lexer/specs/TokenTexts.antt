-- A text is blanks, comments and the spellings of its tokens, one after another.
use Rattle.std.specs.Prelude.{◌≡◌, ◌≢◌, ℕ, ◌+◌, ◌<◌, ◌≤◌, ◌^◌, List, [], ◌∷◌, ◌++◌, length, take, Bool, true, not, IsTrue, pos, nat_eq}
use Rattle.std.specs.List.{list_all, starts_with}
use Rattle.std.specs.Str.Lossy.{utf8_valid_len}
use Rattle.script_lexer.specs.declared.faults.ParseFault.{ParseFault}
use Rattle.script_lexer.specs.declared.faults.ParseFault.TheVariants.{BadToken}
use Rattle.script_lexer.specs.declared.tokens.Spanned.{Spanned}
use Rattle.script_lexer.specs.declared.tokens.Token.{Token}
use Rattle.script_lexer.specs.declared.tokens.Token.TheVariants as token
use Rattle.script_lexer.specs.declared.tokens.Symbol.{Symbol}
use Rattle.script_lexer.specs.declared.tokens.Word.{Word}
use Rattle.script_lexer.specs.Spellings.{is_blank, is_letter, is_digit, in_name, in_line, in_text, word_spelling, symbol_spelling, number_from}
use Rattle.script_lexer.specs.Lexer.{end_of}

-- no byte that passes stands next
abbrev pub stops : (ℕ → Bool) → List ℕ → Bool
stops p [] = true
stops p (b ∷ bs) = not (p b)

-- These bytes may stand between tokens, before those: a blank, or a comment, which goes on to the end of its line.
pub data IsGap : List ℕ → List ℕ → Type 0 where
  blank : (b : ℕ) (rest : List ℕ) → IsTrue (is_blank b) → IsGap (b ∷ []) rest
  comment : (line rest : List ℕ)
      → IsTrue (list_all in_line line)
      → IsTrue (stops in_line rest)
      → IsGap (35 ∷ line) rest

-- These bytes spell the token, before those.
pub data Spells : Token → List ℕ → List ℕ → Type 0 where
  name : (b : ℕ) (bs rest : List ℕ)
      → IsTrue (is_letter b)
      → IsTrue (list_all in_name bs)
      → length bs < 32
      → ((w : Word) → word_spelling w ≢ b ∷ bs)
      → IsTrue (stops in_name rest)
      → Spells (token.Name (b ∷ bs)) (b ∷ bs) rest
  word : (w : Word) (rest : List ℕ)
      → IsTrue (stops in_name rest)
      → Spells (token.Word w) (word_spelling w) rest
  nought : (rest : List ℕ) → Spells (token.Int (pos 0)) (48 ∷ []) rest
  number : (b : ℕ) (bs rest : List ℕ)
      → IsTrue (is_digit b)
      → b ≢ 48
      → IsTrue (list_all is_digit bs)
      → number_from 0 (b ∷ bs) < 2 ^ 63
      → IsTrue (stops is_digit rest)
      → Spells (token.Int (pos (number_from 0 (b ∷ bs)))) (b ∷ bs) rest
  text : (bs rest : List ℕ)
      → IsTrue (list_all in_text bs)
      → length bs ≤ 4096
      → Spells (token.Text bs) (34 ∷ (bs ++ 34 ∷ [])) rest
  symbol : (s : Symbol) (rest : List ℕ)
      → ((longer : Symbol) → IsTrue (starts_with nat_eq (symbol_spelling s ++ rest) (symbol_spelling longer)) → length (symbol_spelling longer) ≤ length (symbol_spelling s))
      → Spells (token.Symbol s) (symbol_spelling s) rest

-- From a place on the bytes are blanks, comments and the spellings of these tokens, up to a place where those bytes are left.
pub data Reads : ℕ → List ℕ → List Spanned → ℕ → List ℕ → Type 0 where
  done : (at : ℕ) (left : List ℕ) → Reads at left [] at left
  gap : (at end : ℕ) (piece rest left : List ℕ) (tokens : List Spanned)
      → IsGap piece rest
      → Reads (at + length piece) rest tokens end left
      → Reads at (piece ++ rest) tokens end left
  spelling : (at end : ℕ) (piece rest left : List ℕ) (tokens : List Spanned) (t : Token)
      → Spells t piece rest
      → Reads (at + length piece) rest tokens end left
      → Reads at (piece ++ rest) (record { token = t; at = at } ∷ tokens) end left

-- no blank, no comment and no token begins here
abbrev pub NothingBegins : List ℕ → Type 0
NothingBegins bytes = (piece rest : List ℕ) → bytes ≡ piece ++ rest → (¬ (IsGap piece rest)) × ((t : Token) → ¬ (Spells t piece rest))

-- What is answered where a further token is wanted, with these bytes left at a place; the first fault is that of their end.
abbrev pub Ends : ParseFault → ℕ → List ℕ → ParseFault → Type 0
Ends end at [] stop = stop ≡ end
Ends end at (b ∷ bs) stop = NothingBegins (b ∷ bs) × (stop ≡ BadToken at)

-- the tokens of a text, over its longest front that is UTF-8, and what ends them
pub record IsLexed (text : List ℕ) (tokens : List Spanned) (stop : ParseFault) : Type 0 where
  pub place : ℕ
  pub left : List ℕ
  pub reads : Reads 0 (take (utf8_valid_len text) text) tokens place left
  pub ends : Ends (end_of (length text) (utf8_valid_len text)) place left stop
