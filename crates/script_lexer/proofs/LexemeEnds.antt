-- A lexeme ends within the bytes.
use Rattle.std.proofs.Common.{◌≡◌, ℕ, zero, suc, ◌-◌, ◌+◌, ◌<◌, ◌≤◌, ◌^◌, Bool, true, false, cond, List, [], ◌∷◌, Option, Some, None, length, take, drop, get_or, refl, ap, subst, arith, length-drop}
use Rattle.std.specs.Prelude.{nat_eq, nat_le, nat_lt, ◌&&◌, pos, Result, Ok, Err, IfOk}
use Rattle.std.specs.List.{prefix_len, find, starts_with}
use Rattle.std.specs.Option.{option_map}
use Rattle.std.proofs.lemmas.List.Sums.{prefix_len-le-length}
use Rattle.std.proofs.lemmas.Bool.{and_parts}
use Rattle.std.proofs.lemmas.Slice.Eq.{bytes_eq-Decides}
use Rattle.std.proofs.lemmas.List.{length-take}
use Rattle.script_lexer.specs.declared.lexemes.Lexeme.{Lexeme}
use Rattle.script_lexer.specs.declared.lexemes.Lexeme.TheVariants.{Gap, Whole, Bad}
use Rattle.script_lexer.specs.declared.lexemes.TheConstants.{SYMBOLS}
use Rattle.script_lexer.specs.declared.tokens.Token.TheVariants as token
use Rattle.script_lexer.specs.declared.tokens.Symbol.{Symbol}
use Rattle.script_lexer.specs.Spellings.{is_blank, is_letter, is_digit, in_name, in_line, in_text, symbol_spelling, number_from}
use Rattle.script_lexer.specs.Lexemes.{word_named, name_token, name_lexeme, closes, text_lexeme, number_lexeme, symbol_found, symbol_lexeme, lexeme, length_behind}

found_in : {A : Type 0} (p : A → Bool) (y x : A) (o : Option A) (b : Bool) → p y ≡ b → (o ≡ Some x → p x ≡ true) → cond b (Some y) o ≡ Some x → p x ≡ true
found_in p y x o true h rest e = let same : y ≡ x = cc in subst (λ z. p z ≡ true) same h
found_in p y x o false h rest e = rest e

-- what a search found passes its test
pub find_passes : {A : Type 0} (p : A → Bool) (xs : List A) (x : A) → find p xs ≡ Some x → p x ≡ true
find_passes p [] x e = absurd cc
find_passes p (y ∷ ys) x e = found_in p y x (find p ys) (p y) refl (find_passes p ys x) e

-- bytes that begin with others are these and what follows
pub starts_as : (xs ys : List ℕ) → starts_with nat_eq xs ys ≡ true → ys ≡ take (length ys) xs
starts_as xs ys e = (bytes_eq-Decides ys (take (length ys) xs)).0 e

-- so they are as long
pub starts_within : (xs ys : List ℕ) → starts_with nat_eq xs ys ≡ true → length ys ≤ length xs
starts_within xs ys e = let same : length ys ≡ length (take (length ys) xs) = ap length (starts_as xs ys e) in omega (arith, same, length-take (length ys) xs)

if_within : (q : Bool) (x y : Lexeme) (n : ℕ) → length_behind x ≤ n → length_behind y ≤ n → length_behind (cond q x y) ≤ n
if_within true x y n hx hy = hx
if_within false x y n hx hy = hy

name_within : (b : ℕ) (bs : List ℕ) → length_behind (name_lexeme b bs) ≤ length bs
unfolding name_lexeme
name_within b bs =
    let more = prefix_len in_name bs in
    if_within (nat_lt more 32) (Whole (name_token (word_named (b ∷ take more bs)) (b ∷ take more bs)) more) Bad (length bs) (prefix_len-le-length in_name bs) (omega arith)

number_within : (b : ℕ) (bs : List ℕ) → length_behind (number_lexeme b bs) ≤ length bs
unfolding number_lexeme
number_within b bs =
    let more = prefix_len is_digit bs in
    if_within (nat_lt (number_from (b - 48) (take more bs)) (2 ^ 63)) (Whole (token.Int (pos (number_from (b - 48) (take more bs)))) more) Bad (length bs) (prefix_len-le-length is_digit bs) (omega arith)

-- a quote that stands behind some bytes stands within
pub closes_within : (len : ℕ) (bs : List ℕ) → closes (drop len bs) ≡ true → len < length bs
closes_within zero [] e = let no : false ≡ true = e in absurd cc
closes_within (suc len) [] e = let no : false ≡ true = e in absurd cc
closes_within zero (b ∷ bs) e = omega arith
closes_within (suc len) (b ∷ bs) e = omega (arith, closes_within len bs e)

text_within : (bs : List ℕ) → length_behind (text_lexeme bs) ≤ length bs
unfolding text_lexeme
text_within bs = text_if (closes (drop len bs) && nat_le len 4096) refl where
  len : ℕ
  len = prefix_len in_text bs

  text_if : (q : Bool) → (closes (drop len bs) && nat_le len 4096) ≡ q → length_behind (cond q (Whole (token.Text (take len bs)) (len + 1)) Bad) ≤ length bs
  text_if true e = let closed = and_parts (closes (drop len bs)) (nat_le len 4096) e in let lt : len < length bs = closes_within len bs closed.0 in omega arith
  text_if false e = omega arith

symbol_within : (b : ℕ) (bs : List ℕ) → length_behind (symbol_lexeme (b ∷ bs)) ≤ length bs
unfolding symbol_lexeme
symbol_within b bs = symbol_if (find (λ s. starts_with nat_eq (b ∷ bs) (symbol_spelling s)) SYMBOLS) refl where
  symbol_if : (o : Option Symbol) → find (λ s. starts_with nat_eq (b ∷ bs) (symbol_spelling s)) SYMBOLS ≡ o → length_behind (symbol_found (option_map (λ s. s) o)) ≤ length bs
  symbol_if (Some s) e =
      let fits : length (symbol_spelling s) ≤ suc (length bs) = starts_within (b ∷ bs) (symbol_spelling s) (find_passes (λ r. starts_with nat_eq (b ∷ bs) (symbol_spelling r)) SYMBOLS s e) in
      omega arith
  symbol_if None e = omega arith

pub lexeme_within : (b : ℕ) (bs : List ℕ) → length_behind (lexeme b bs) ≤ length bs
unfolding lexeme
lexeme_within b bs =
    let n = length bs in
    let nought : Lexeme = Whole (token.Int (pos 0)) 0 in
    let l1 : Lexeme = cond (nat_eq b 34) (text_lexeme bs) (symbol_lexeme (b ∷ bs)) in
    let l2 : Lexeme = cond (is_digit b) (number_lexeme b bs) l1 in
    let l3 : Lexeme = cond (nat_eq b 48) nought l2 in
    let l4 : Lexeme = cond (is_letter b) (name_lexeme b bs) l3 in
    let l5 : Lexeme = cond (nat_eq b 35) (Gap (prefix_len in_line bs)) l4 in
    let f1 : length_behind l1 ≤ n = if_within (nat_eq b 34) (text_lexeme bs) (symbol_lexeme (b ∷ bs)) n (text_within bs) (symbol_within b bs) in
    let f2 : length_behind l2 ≤ n = if_within (is_digit b) (number_lexeme b bs) l1 n (number_within b bs) f1 in
    let f3 : length_behind l3 ≤ n = if_within (nat_eq b 48) nought l2 n (omega arith) f2 in
    let f4 : length_behind l4 ≤ n = if_within (is_letter b) (name_lexeme b bs) l3 n (name_within b bs) f3 in
    let f5 : length_behind l5 ≤ n = if_within (nat_eq b 35) (Gap (prefix_len in_line bs)) l4 n (prefix_len-le-length in_line bs) f4 in
    if_within (is_blank b) (Gap 0) l5 n (omega arith) f5

-- the same of what was found at a place of a text
pub found_within : (text : List ℕ) (at : ℕ) (found : Lexeme) → at < length text → found ≡ lexeme (get_or text at 0) (drop (at + 1) text) → at + length_behind found < length text
found_within text at found lt e =
    let same : length_behind found ≡ length_behind (lexeme (get_or text at 0) (drop (at + 1) text)) = ap length_behind e in
    omega (arith, same, lexeme_within (get_or text at 0) (drop (at + 1) text), length-drop (at + 1) text)

pub result_within : {E : Type 0} (r : Result Lexeme E) (text : List ℕ) (at : ℕ) → at < length text → IfOk r (λ found. found ≡ lexeme (get_or text at 0) (drop (at + 1) text)) → IfOk r (λ found. at + length_behind found < length text)
result_within (Ok found) text at lt e = found_within text at found lt e
result_within (Err f) text at lt e = tt
