-- Where a name or a text may be cut out of a text of UTF-8.
use Rattle.std.proofs.Common.{◌≡◌, ℕ, zero, suc, ◌-◌, ◌+◌, ◌<◌, ◌≤◌, true, List, ◌∷◌, IsUtf8, length, take, drop, get_or, refl, subst, arith, length-drop}
use Rattle.std.specs.List.{prefix_len, slice_range}
use Rattle.std.specs.Prelude.{nat_lt, Option}
use Rattle.std.proofs.lemmas.Bool.{lt-ltb}
use Rattle.std.specs.Str.{IsCharBoundary}
use Rattle.std.proofs.lemmas.Bool.Decides.{nat_tests}
use Rattle.std.proofs.lemmas.List.{get_or-drop, drop_more}
use Rattle.std.proofs.lemmas.List.Sums.{prefix_len-le-length, prefix_len_passes}
use Rattle.std.proofs.lemmas.Str.{IsCharBoundary-after_ascii}
use Rattle.script_lexer.specs.Spellings.{is_letter, in_name}
use Rattle.script_lexer.specs.declared.lexemes.Lexeme.TheVariants.{Whole}
use Rattle.script_lexer.specs.declared.tokens.Token.{Token}
use Rattle.script_lexer.specs.declared.tokens.Word.{Word}
use Rattle.script_lexer.specs.Lexemes.{word_named, name_token, name_lexeme}

letter_is_ascii : (b : ℕ) → is_letter b ≡ true → b < 128
letter_is_ascii b e = grind (arith, nat_tests)

name_is_ascii : (b : ℕ) → in_name b ≡ true → b < 128
name_is_ascii b e = grind (arith, nat_tests)

-- a name ends where a character does
pub name_boundary : (text : List ℕ) (at n : ℕ) → prefix_len in_name (drop (at + 1) text) ≡ n → IsUtf8 text → at < length text → is_letter (get_or text at 0) ≡ true → IsCharBoundary text (at + n + 1)
name_boundary text at zero e utf8 lt letter = rw (let z : at + 0 ≡ at = omega arith in z) (IsCharBoundary-after_ascii text at utf8 lt (letter_is_ascii _ letter))
name_boundary text at (suc k) e utf8 lt letter =
    let within : suc k ≤ length text - (at + 1) = omega (arith, e, prefix_len-le-length in_name (drop (at + 1) text), length-drop (at + 1) text) in
    let last : in_name (get_or (drop (at + 1) text) k 0) ≡ true = prefix_len_passes in_name (drop (at + 1) text) k 0 (omega (arith, e)) in
    let same : get_or (drop (at + 1) text) k 0 ≡ get_or text (at + 1 + k) 0 = get_or-drop (at + 1) text k 0 in
    let place : at + 1 + k ≡ at + suc k = omega arith in
    let ascii : get_or text (at + suc k) 0 < 128 = subst (λ i. get_or text i 0 < 128) place (subst (λ c. c < 128) same (name_is_ascii _ last)) in
    IsCharBoundary-after_ascii text (at + suc k) utf8 (omega arith) ascii

-- its bytes are the first and those after it
pub name_bytes : (text : List ℕ) (at n : ℕ) → at < length text → slice_range text at (at + n + 1) ≡ get_or text at 0 ∷ take n (drop (at + 1) text)
name_bytes text at n lt =
    let count : at + n + 1 - at ≡ suc n = omega arith in
    rw (count, drop_more text at 0 lt) refl

-- it is a reserved word or a name
pub name_found : (b : ℕ) (bs name : List ℕ) (o : Option Word) (n : ℕ) (t : Token) → prefix_len in_name bs ≡ n → n < 32 → name ≡ b ∷ take n bs → o ≡ word_named name → t ≡ name_token o name → Whole t n ≡ name_lexeme b bs
unfolding name_lexeme
name_found b bs name o n t len lt is word found =
    let fits : nat_lt n 32 ≡ true = lt-ltb n 32 lt in
    rw (found, word, is, len, fits) refl
