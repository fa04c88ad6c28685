-- A lexeme is a blank, a comment or the spelling of a token.
use Rattle.std.proofs.Common.{◌≡◌, ◌≢◌, ℕ, zero, suc, ◌-◌, ◌+◌, ◌*◌, ◌<◌, ◌≤◌, ◌^◌, Bool, true, false, cond, List, [], ◌∷◌, ◌++◌, Option, Some, None, length, take, drop, get_or, refl, sym, ap, subst, ◌∙◌, arith}
use Rattle.std.specs.Prelude.{nat_eq, nat_le, nat_lt, ◌&&◌, pos, bytes_eq}
use Rattle.std.specs.List.{prefix_len, list_all, find, starts_with}
use Rattle.std.specs.Option.{option_map}
use Rattle.std.proofs.lemmas.Bool.{eqb-true, eqb-false, and_parts}
use Rattle.std.proofs.lemmas.Bool.Decides.{nat_tests}
use Rattle.std.proofs.lemmas.List.{length-take-le, take-append-drop, take_more}
use Rattle.std.proofs.lemmas.List.Sums.{prefix_len-le-length}
use Rattle.script_lexer.specs.declared.lexemes.Lexeme.{Lexeme}
use Rattle.script_lexer.specs.declared.lexemes.Lexeme.TheVariants.{Gap, Whole, Bad}
use Rattle.script_lexer.specs.declared.lexemes.TheConstants.{WORDS, SYMBOLS}
use Rattle.script_lexer.specs.declared.tokens.Token.TheVariants as token
use Rattle.script_lexer.specs.declared.tokens.Symbol.{Symbol}
use Rattle.script_lexer.specs.declared.tokens.Word.{Word}
use Rattle.script_lexer.specs.Spellings.{is_blank, is_letter, is_digit, in_name, in_line, in_text, word_spelling, symbol_spelling, number_from}
use Rattle.script_lexer.specs.Lexemes.{word_named, name_token, name_lexeme, closes, text_lexeme, number_lexeme, symbol_found, symbol_lexeme, lexeme}
use Rattle.script_lexer.specs.TokenTexts.{stops, IsGap, blank, comment, Spells, name, word, nought, number, text, symbol}
use Rattle.script_lexer.proofs.LexemeEnds.{find_passes, starts_as, closes_within}
use Rattle.script_lexer.proofs.Runs.{run_passes, run_stops}
use Rattle.script_lexer.proofs.Tables.{unnamed, named, begun, some_bytes, longest}

lt_true : (a b : ℕ) → nat_lt a b ≡ true → a < b
lt_true a b e = grind (arith, nat_tests)

le_true : (a b : ℕ) → nat_le a b ≡ true → a ≤ b
le_true a b e = grind (arith, nat_tests)

-- what a lexeme of this byte and those behind it says is so
abbrev pub IsRight : ℕ → List ℕ → Lexeme → Type 0
IsRight b bs (Gap more) = IsGap (b ∷ take more bs) (drop more bs)
IsRight b bs (Whole t more) = Spells t (b ∷ take more bs) (drop more bs)
IsRight b bs Bad = Unit {0}

right_if : (b : ℕ) (bs : List ℕ) (q : Bool) (x y : Lexeme) → (q ≡ true → IsRight b bs x) → (q ≡ false → IsRight b bs y) → IsRight b bs (cond q x y)
right_if b bs true x y hx hy = hx refl
right_if b bs false x y hx hy = hy refl

comment_right : (b : ℕ) (bs : List ℕ) → b ≡ 35 → IsGap (b ∷ take (prefix_len in_line bs) bs) (drop (prefix_len in_line bs) bs)
comment_right b bs e = subst (λ c. IsGap (c ∷ take (prefix_len in_line bs) bs) (drop (prefix_len in_line bs) bs)) (sym e) (comment (take (prefix_len in_line bs) bs) (drop (prefix_len in_line bs) bs) (run_passes in_line bs) (run_stops in_line bs))

token_named : (o : Option Word) (b : ℕ) (bs : List ℕ) (n : ℕ) → is_letter b ≡ true → prefix_len in_name bs ≡ n → n < 32 → find (λ w. bytes_eq (word_spelling w) (b ∷ take n bs)) WORDS ≡ o → Spells (name_token (option_map (λ w. w) o) (b ∷ take n bs)) (b ∷ take n bs) (drop n bs)
token_named (Some w) b bs n letter len lt e =
    let stop : stops in_name (drop n bs) ≡ true = rw (← len) (run_stops in_name bs) in
    subst (λ (l : List ℕ). Spells (token.Word w) l (drop n bs)) (named (b ∷ take n bs) w e) (word w (drop n bs) stop)
token_named None b bs n letter len lt e =
    let stop : stops in_name (drop n bs) ≡ true = rw (← len) (run_stops in_name bs) in
    let all : list_all in_name (take n bs) ≡ true = rw (← len) (run_passes in_name bs) in
    let fits : n ≤ length bs = omega (arith, len, prefix_len-le-length in_name bs) in
    let count : length (take n bs) < 32 = omega (arith, length-take-le n bs fits) in
    name b (take n bs) (drop n bs) letter all count (unnamed (b ∷ take n bs) e) stop

name_right : (b : ℕ) (bs : List ℕ) → is_letter b ≡ true → IsRight b bs (name_lexeme b bs)
unfolding name_lexeme
name_right b bs letter =
    let more = prefix_len in_name bs in
    let said = b ∷ take more bs in
    right_if b bs (nat_lt more 32) (Whole (name_token (word_named said) said) more) Bad (λ fits. let lt : more < 32 = grind (arith, nat_tests) in token_named (find (λ w. bytes_eq (word_spelling w) said) WORDS) b bs more letter refl lt refl) (λ _. tt)

number_right : (b : ℕ) (bs : List ℕ) → is_digit b ≡ true → b ≢ 48 → IsRight b bs (number_lexeme b bs)
unfolding number_lexeme
number_right b bs digit ne =
    let more = prefix_len is_digit bs in
    let first : 10 * 0 + (b - 48) ≡ b - 48 = omega arith in
    let value : number_from 0 (b ∷ take more bs) ≡ number_from (b - 48) (take more bs) = ap (λ n. number_from n (take more bs)) first in
    right_if b bs (nat_lt (number_from (b - 48) (take more bs)) (2 ^ 63)) (Whole (token.Int (pos (number_from (b - 48) (take more bs)))) more) Bad
    (λ fits.
    let lt : number_from 0 (b ∷ take more bs) < 2 ^ 63 = rw value (lt_true (number_from (b - 48) (take more bs)) (2 ^ 63) fits) in
    subst (λ n. Spells (token.Int (pos n)) (b ∷ take more bs) (drop more bs)) value (number b (take more bs) (drop more bs) digit ne (run_passes is_digit bs) lt (run_stops is_digit bs)))
    (λ _. tt)

closing_byte : (len : ℕ) (bs : List ℕ) → closes (drop len bs) ≡ true → get_or bs len 0 ≡ 34
closing_byte zero [] e = let no : false ≡ true = e in absurd cc
closing_byte (suc len) [] e = let no : false ≡ true = e in absurd cc
closing_byte zero (b ∷ bs) e = eqb-true b 34 e
closing_byte (suc len) (b ∷ bs) e = closing_byte len bs e

quoted : (len : ℕ) (bs : List ℕ) → closes (drop len bs) ≡ true → take (len + 1) bs ≡ take len bs ++ 34 ∷ []
quoted len bs e = take_more bs len 0 (closes_within len bs e) ∙ ap (λ c. take len bs ++ c ∷ []) (closing_byte len bs e)

text_right : (b : ℕ) (bs : List ℕ) → b ≡ 34 → IsRight b bs (text_lexeme bs)
unfolding text_lexeme
text_right b bs quote =
    let len = prefix_len in_text bs in
    right_if b bs (closes (drop len bs) && nat_le len 4096) (Whole (token.Text (take len bs)) (len + 1)) Bad
    (λ both.
    let parts = and_parts (closes (drop len bs)) (nat_le len 4096) both in
    let most : len ≤ 4096 = le_true len 4096 parts.1 in
    let lt : len < length bs = closes_within len bs parts.0 in
    let count : length (take len bs) ≤ 4096 = omega (arith, length-take-le len bs (omega arith)) in
    let said : 34 ∷ (take len bs ++ 34 ∷ []) ≡ b ∷ take (len + 1) bs = ap (λ (l : List ℕ). 34 ∷ l) (sym (quoted len bs parts.0)) ∙ ap (λ c. c ∷ take (len + 1) bs) (sym quote) in
    subst (λ (l : List ℕ). Spells (token.Text (take len bs)) l (drop (len + 1) bs)) said (text (take len bs) (drop (len + 1) bs) (run_passes in_text bs) count))
    (λ _. tt)

symbol_found_right : (o : Option Symbol) (b : ℕ) (bs : List ℕ) → find (begun (b ∷ bs)) SYMBOLS ≡ o → IsRight b bs (symbol_found (option_map (λ s. s) o))
symbol_found_right None b bs e = tt
symbol_found_right (Some s) b bs e =
    let n = length (symbol_spelling s) - 1 in
    let some : 1 ≤ length (symbol_spelling s) = le_true 1 (length (symbol_spelling s)) (some_bytes s) in
    let count : length (symbol_spelling s) ≡ suc n = omega arith in
    let said : symbol_spelling s ≡ b ∷ take n bs = starts_as (b ∷ bs) (symbol_spelling s) (find_passes (begun (b ∷ bs)) SYMBOLS s e) ∙ ap (λ k. take k (b ∷ bs)) count in
    let whole : symbol_spelling s ++ drop n bs ≡ b ∷ bs = ap (λ (l : List ℕ). l ++ drop n bs) said ∙ ap (λ (l : List ℕ). b ∷ l) (take-append-drop n bs) in
    subst (λ (l : List ℕ). Spells (token.Symbol s) l (drop n bs)) said
    (symbol s (drop n bs) (λ longer starts. longest (b ∷ bs) s e longer (subst (λ (l : List ℕ). starts_with nat_eq l (symbol_spelling longer) ≡ true) whole starts)))

symbol_right : (b : ℕ) (bs : List ℕ) → IsRight b bs (symbol_lexeme (b ∷ bs))
unfolding symbol_lexeme
symbol_right b bs = symbol_found_right (find (begun (b ∷ bs)) SYMBOLS) b bs refl

pub lexeme_right : (b : ℕ) (bs : List ℕ) → IsRight b bs (lexeme b bs)
unfolding lexeme
lexeme_right b bs =
    let one : Lexeme = Whole (token.Int (pos 0)) 0 in
    let l1 : Lexeme = cond (nat_eq b 34) (text_lexeme bs) (symbol_lexeme (b ∷ bs)) in
    let l2 : Lexeme = cond (is_digit b) (number_lexeme b bs) l1 in
    let l3 : Lexeme = cond (nat_eq b 48) one l2 in
    let l4 : Lexeme = cond (is_letter b) (name_lexeme b bs) l3 in
    let l5 : Lexeme = cond (nat_eq b 35) (Gap (prefix_len in_line bs)) l4 in
    right_if b bs (is_blank b) (Gap 0) l5 (λ e. blank b bs e)
    (λ _. right_if b bs (nat_eq b 35) (Gap (prefix_len in_line bs)) l4 (λ e. comment_right b bs (eqb-true b 35 e))
    (λ _. right_if b bs (is_letter b) (name_lexeme b bs) l3 (λ e. name_right b bs e)
    (λ _. right_if b bs (nat_eq b 48) one l2 (λ e. subst (λ c. Spells (token.Int (pos 0)) (c ∷ []) bs) (sym (eqb-true b 48 e)) (nought bs))
    (λ n. right_if b bs (is_digit b) (number_lexeme b bs) l1 (λ e. number_right b bs e (eqb-false b 48 n))
    (λ _. right_if b bs (nat_eq b 34) (text_lexeme bs) (symbol_lexeme (b ∷ bs)) (λ e. text_right b bs (eqb-true b 34 e)) (λ _. symbol_right b bs))))))
