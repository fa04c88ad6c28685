-- A blank, a comment and the spelling of a token are found.
use Rattle.std.proofs.Common.{◌≡◌, ◌≢◌, ℕ, suc, ◌-◌, ◌+◌, ◌*◌, ◌<◌, ◌≤◌, ◌^◌, true, false, List, [], ◌∷◌, ◌++◌, Option, Some, None, length, take, drop, get_or, refl, sym, ap, subst, ◌∙◌, arith, append_assoc, length-append}
use Rattle.std.specs.Prelude.{nat_eq, nat_le, nat_lt, pos, bytes_eq}
use Rattle.std.specs.List.{prefix_len, list_all, find}
use Rattle.std.specs.Option.{option_map}
use Rattle.std.proofs.lemmas.Bool.{ne_eqb, lt-ltb}
use Rattle.std.proofs.lemmas.Bool.Decides.{nat_tests}
use Rattle.std.proofs.lemmas.Slice.Eq.{bytes_eq-Decides}
use Rattle.std.proofs.lemmas.List.{take_at, drop_at}
use Rattle.script_lexer.specs.declared.lexemes.Lexeme.{Lexeme}
use Rattle.script_lexer.specs.declared.lexemes.Lexeme.TheVariants.{Gap, Whole}
use Rattle.script_lexer.specs.declared.lexemes.TheConstants.{SYMBOLS}
use Rattle.script_lexer.specs.declared.tokens.Token.{Token}
use Rattle.script_lexer.specs.declared.tokens.Token.TheVariants as token
use Rattle.script_lexer.specs.declared.tokens.Symbol.{Symbol}
use Rattle.script_lexer.specs.declared.tokens.Symbol.TheVariants as symbols
use Rattle.script_lexer.specs.declared.tokens.Word.{Word}
use Rattle.script_lexer.specs.declared.tokens.Word.TheVariants as words
use Rattle.script_lexer.specs.Spellings.{is_blank, is_letter, is_digit, in_name, in_line, in_text, word_spelling, symbol_spelling, number_from}
use Rattle.script_lexer.specs.Lexemes.{word_named, name_token, name_lexeme, text_lexeme, number_lexeme, symbol_at, symbol_found, symbol_lexeme, lexeme}
use Rattle.script_lexer.specs.TokenTexts.{stops, IsGap, blank, comment, Spells, name, word, nought, number, text, symbol}
use Rattle.script_lexer.proofs.LexemeEnds.{find_passes, starts_as}
use Rattle.script_lexer.proofs.Runs.{run_is}
use Rattle.script_lexer.proofs.Tables.{not_named, begun, longest, none_passes}

-- the bytes begin with this lexeme, which has so many bytes
pub record Begins (bytes : List ℕ) (size : ℕ) (found : ℕ → Lexeme) : Type 0 where
  pub first : ℕ
  pub others : List ℕ
  pub is : bytes ≡ first ∷ others
  pub more : ℕ
  pub count : size ≡ suc more
  pub reads : lexeme first others ≡ found more

blank_found : (b : ℕ) (rest : List ℕ) → is_blank b ≡ true → lexeme b rest ≡ Gap 0
unfolding lexeme
blank_found b rest e = rw e refl

comment_found : (line rest : List ℕ) → list_all in_line line ≡ true → stops in_line rest ≡ true → lexeme 35 (line ++ rest) ≡ Gap (length line)
unfolding lexeme
comment_found line rest a s = ap Gap (run_is in_line line rest a s)

pub gap_found : (piece rest : List ℕ) → IsGap piece rest → Begins (piece ++ rest) (length piece) Gap
gap_found _ _ (blank b rest e) = record { first = b; others = rest; is = refl; more = 0; count = refl; reads = blank_found b rest e }
gap_found _ _ (comment line rest a s) = record { first = 35; others = line ++ rest; is = refl; more = length line; count = refl; reads = comment_found line rest a s }

-- a letter begins a name
letter_found : (b : ℕ) (bs : List ℕ) → is_letter b ≡ true → lexeme b bs ≡ name_lexeme b bs
unfolding lexeme
letter_found b bs e =
    let not_blank : is_blank b ≡ false = grind (arith, nat_tests) in
    let not_hash : nat_eq b 35 ≡ false = grind (arith, nat_tests) in
    rw (not_blank, not_hash, e) refl

name_found_as : (b : ℕ) (bs rest : List ℕ) (o : Option Word) → is_letter b ≡ true → list_all in_name bs ≡ true → stops in_name rest ≡ true → length bs < 32 → word_named (b ∷ bs) ≡ o → lexeme b (bs ++ rest) ≡ Whole (name_token o (b ∷ bs)) (length bs)
unfolding name_lexeme
name_found_as b bs rest o letter all stop lt is =
    let len : prefix_len in_name (bs ++ rest) ≡ length bs = run_is in_name bs rest all stop in
    let fits : nat_lt (length bs) 32 ≡ true = lt-ltb (length bs) 32 lt in
    let cut : take (length bs) (bs ++ rest) ≡ bs = take_at bs rest (length bs) refl in
    letter_found b (bs ++ rest) letter ∙ rw (len, fits, cut, is) refl

record WordShape (w : Word) : Type 0 where
  first : ℕ
  others : List ℕ
  is : word_spelling w ≡ first ∷ others
  letter : is_letter first ≡ true
  all : list_all in_name others ≡ true
  short : nat_lt (length others) 32 ≡ true
  named : word_named (first ∷ others) ≡ Some w

word_shape : (w : Word) → WordShape w
word_shape words.Type = record { first = 116; others = 121 ∷ 112 ∷ 101 ∷ []; is = refl; letter = refl; all = refl; short = refl; named = refl }
word_shape words.Field = record { first = 102; others = 105 ∷ 101 ∷ 108 ∷ 100 ∷ []; is = refl; letter = refl; all = refl; short = refl; named = refl }
word_shape words.Method = record { first = 109; others = 101 ∷ 116 ∷ 104 ∷ 111 ∷ 100 ∷ []; is = refl; letter = refl; all = refl; short = refl; named = refl }
word_shape words.Let = record { first = 108; others = 101 ∷ 116 ∷ []; is = refl; letter = refl; all = refl; short = refl; named = refl }
word_shape words.Set = record { first = 115; others = 101 ∷ 116 ∷ []; is = refl; letter = refl; all = refl; short = refl; named = refl }
word_shape words.If = record { first = 105; others = 102 ∷ []; is = refl; letter = refl; all = refl; short = refl; named = refl }
word_shape words.Else = record { first = 101; others = 108 ∷ 115 ∷ 101 ∷ []; is = refl; letter = refl; all = refl; short = refl; named = refl }
word_shape words.While = record { first = 119; others = 104 ∷ 105 ∷ 108 ∷ 101 ∷ []; is = refl; letter = refl; all = refl; short = refl; named = refl }
word_shape words.Return = record { first = 114; others = 101 ∷ 116 ∷ 117 ∷ 114 ∷ 110 ∷ []; is = refl; letter = refl; all = refl; short = refl; named = refl }
word_shape words.Fail = record { first = 102; others = 97 ∷ 105 ∷ 108 ∷ []; is = refl; letter = refl; all = refl; short = refl; named = refl }
word_shape words.Call = record { first = 99; others = 97 ∷ 108 ∷ 108 ∷ []; is = refl; letter = refl; all = refl; short = refl; named = refl }
word_shape words.Attempt = record { first = 97; others = 116 ∷ 116 ∷ 101 ∷ 109 ∷ 112 ∷ 116 ∷ []; is = refl; letter = refl; all = refl; short = refl; named = refl }
word_shape words.Key = record { first = 107; others = 101 ∷ 121 ∷ []; is = refl; letter = refl; all = refl; short = refl; named = refl }

lt_true : (a b : ℕ) → nat_lt a b ≡ true → a < b
lt_true a b e = grind (arith, nat_tests)

word_found : (w : Word) (rest : List ℕ) → stops in_name rest ≡ true → Begins (word_spelling w ++ rest) (length (word_spelling w)) (λ more. Whole (token.Word w) more)
word_found w rest stop =
    let shape = word_shape w in
    record {
      first = shape.first;
      others = shape.others ++ rest;
      is = ap (λ (l : List ℕ). l ++ rest) shape.is;
      more = length shape.others;
      count = ap length shape.is;
      reads = name_found_as shape.first shape.others rest (Some w) shape.letter shape.all stop (lt_true (length shape.others) 32 shape.short) shape.named;
    }

nought_found : (rest : List ℕ) → lexeme 48 rest ≡ Whole (token.Int (pos 0)) 0
unfolding lexeme
nought_found rest = refl

-- a digit begins a number
digit_found : (b : ℕ) (bs : List ℕ) → is_digit b ≡ true → b ≢ 48 → lexeme b bs ≡ number_lexeme b bs
unfolding lexeme
digit_found b bs e ne =
    let not_nought : nat_eq b 48 ≡ false = ne_eqb b 48 ne in
    let not_blank : is_blank b ≡ false = grind (arith, nat_tests) in
    let not_hash : nat_eq b 35 ≡ false = grind (arith, nat_tests) in
    let not_letter : is_letter b ≡ false = grind (arith, nat_tests) in
    rw (not_blank, not_hash, not_letter, not_nought, e) refl

number_found : (b : ℕ) (bs rest : List ℕ) → is_digit b ≡ true → b ≢ 48 → list_all is_digit bs ≡ true → number_from 0 (b ∷ bs) < 2 ^ 63 → stops is_digit rest ≡ true → lexeme b (bs ++ rest) ≡ Whole (token.Int (pos (number_from 0 (b ∷ bs)))) (length bs)
unfolding number_lexeme
number_found b bs rest digit ne all lt stop =
    let len : prefix_len is_digit (bs ++ rest) ≡ length bs = run_is is_digit bs rest all stop in
    let cut : take (length bs) (bs ++ rest) ≡ bs = take_at bs rest (length bs) refl in
    let first : 10 * 0 + (b - 48) ≡ b - 48 = omega arith in
    let value : number_from 0 (b ∷ bs) ≡ number_from (b - 48) bs = ap (λ n. number_from n bs) first in
    let fits : nat_lt (number_from (b - 48) bs) (2 ^ 63) ≡ true = lt-ltb (number_from (b - 48) bs) (2 ^ 63) (subst (λ n. n < 2 ^ 63) value lt) in
    digit_found b (bs ++ rest) digit ne ∙ rw (len, cut, fits) (ap (λ n. Whole (token.Int (pos n)) (length bs)) (sym value))

quote_found : (bs : List ℕ) → lexeme 34 bs ≡ text_lexeme bs
unfolding lexeme
quote_found bs = refl

text_found : (bs rest : List ℕ) → list_all in_text bs ≡ true → length bs ≤ 4096 → lexeme 34 (bs ++ 34 ∷ [] ++ rest) ≡ Whole (token.Text bs) (length bs + 1)
unfolding text_lexeme
text_found bs rest all le =
    let same : bs ++ 34 ∷ [] ++ rest ≡ bs ++ (34 ∷ rest) = append_assoc bs (34 ∷ []) rest in
    let len : prefix_len in_text (bs ++ (34 ∷ rest)) ≡ length bs = run_is in_text bs (34 ∷ rest) all refl in
    let cut : take (length bs) (bs ++ (34 ∷ rest)) ≡ bs = take_at bs (34 ∷ rest) (length bs) refl in
    let behind : drop (length bs) (bs ++ (34 ∷ rest)) ≡ 34 ∷ rest = drop_at bs (34 ∷ rest) (length bs) refl in
    let most : nat_le (length bs) 4096 ≡ true = grind (arith, nat_tests) in
    quote_found (bs ++ 34 ∷ [] ++ rest) ∙ rw (same, len, behind, most, cut) refl

-- ---- symbols

-- the place of a symbol in the table, and that its spelling is no other's
record SymbolShape (s : Symbol) : Type 0 where
  first : ℕ
  others : List ℕ
  is : symbol_spelling s ≡ first ∷ others
  reads : (bs : List ℕ) → lexeme first bs ≡ symbol_lexeme (first ∷ bs)
  place : ℕ
  within : nat_lt place 22 ≡ true
  there : get_or SYMBOLS place symbols.Not ≡ s
  alone : find (λ r. bytes_eq (symbol_spelling r) (symbol_spelling s)) SYMBOLS ≡ Some s

symbol_shape : (s : Symbol) → SymbolShape s
unfolding lexeme
symbol_shape symbols.LessEqual = record { first = 60; others = 61 ∷ []; is = refl; reads = λ bs. refl; place = 0; within = refl; there = refl; alone = refl }
symbol_shape symbols.GreaterEqual = record { first = 62; others = 61 ∷ []; is = refl; reads = λ bs. refl; place = 1; within = refl; there = refl; alone = refl }
symbol_shape symbols.Equal = record { first = 61; others = 61 ∷ []; is = refl; reads = λ bs. refl; place = 2; within = refl; there = refl; alone = refl }
symbol_shape symbols.NotEqual = record { first = 33; others = 61 ∷ []; is = refl; reads = λ bs. refl; place = 3; within = refl; there = refl; alone = refl }
symbol_shape symbols.And = record { first = 38; others = 38 ∷ []; is = refl; reads = λ bs. refl; place = 4; within = refl; there = refl; alone = refl }
symbol_shape symbols.Or = record { first = 124; others = 124 ∷ []; is = refl; reads = λ bs. refl; place = 5; within = refl; there = refl; alone = refl }
symbol_shape symbols.LeftBrace = record { first = 123; others = []; is = refl; reads = λ bs. refl; place = 6; within = refl; there = refl; alone = refl }
symbol_shape symbols.RightBrace = record { first = 125; others = []; is = refl; reads = λ bs. refl; place = 7; within = refl; there = refl; alone = refl }
symbol_shape symbols.LeftParen = record { first = 40; others = []; is = refl; reads = λ bs. refl; place = 8; within = refl; there = refl; alone = refl }
symbol_shape symbols.RightParen = record { first = 41; others = []; is = refl; reads = λ bs. refl; place = 9; within = refl; there = refl; alone = refl }
symbol_shape symbols.Semicolon = record { first = 59; others = []; is = refl; reads = λ bs. refl; place = 10; within = refl; there = refl; alone = refl }
symbol_shape symbols.Comma = record { first = 44; others = []; is = refl; reads = λ bs. refl; place = 11; within = refl; there = refl; alone = refl }
symbol_shape symbols.Dot = record { first = 46; others = []; is = refl; reads = λ bs. refl; place = 12; within = refl; there = refl; alone = refl }
symbol_shape symbols.Assign = record { first = 61; others = []; is = refl; reads = λ bs. refl; place = 13; within = refl; there = refl; alone = refl }
symbol_shape symbols.Plus = record { first = 43; others = []; is = refl; reads = λ bs. refl; place = 14; within = refl; there = refl; alone = refl }
symbol_shape symbols.Minus = record { first = 45; others = []; is = refl; reads = λ bs. refl; place = 15; within = refl; there = refl; alone = refl }
symbol_shape symbols.Star = record { first = 42; others = []; is = refl; reads = λ bs. refl; place = 16; within = refl; there = refl; alone = refl }
symbol_shape symbols.Slash = record { first = 47; others = []; is = refl; reads = λ bs. refl; place = 17; within = refl; there = refl; alone = refl }
symbol_shape symbols.Percent = record { first = 37; others = []; is = refl; reads = λ bs. refl; place = 18; within = refl; there = refl; alone = refl }
symbol_shape symbols.Less = record { first = 60; others = []; is = refl; reads = λ bs. refl; place = 19; within = refl; there = refl; alone = refl }
symbol_shape symbols.Greater = record { first = 62; others = []; is = refl; reads = λ bs. refl; place = 20; within = refl; there = refl; alone = refl }
symbol_shape symbols.Not = record { first = 33; others = []; is = refl; reads = λ bs. refl; place = 21; within = refl; there = refl; alone = refl }

-- symbols of one spelling are one
same_spelling : (s r : Symbol) → symbol_spelling s ≡ symbol_spelling r → r ≡ s
same_spelling s r e =
    let of_s = (symbol_shape s).alone in
    let of_r = (symbol_shape r).alone in
    let both : Some r ≡ Some s = sym of_r ∙ ap (λ (l : List ℕ). find (λ t. bytes_eq (symbol_spelling t) l) SYMBOLS) (sym e) ∙ of_s in
    cc

begins_itself : (s : Symbol) (rest : List ℕ) → begun (symbol_spelling s ++ rest) s ≡ true
begins_itself s rest = (bytes_eq-Decides (symbol_spelling s) (take (length (symbol_spelling s)) (symbol_spelling s ++ rest))).1 (sym (take_at (symbol_spelling s) rest (length (symbol_spelling s)) refl))

-- the longest symbol that the bytes begin with is found
symbol_is : (s : Symbol) (rest : List ℕ) → ((longer : Symbol) → begun (symbol_spelling s ++ rest) longer ≡ true → length (symbol_spelling longer) ≤ length (symbol_spelling s)) → (o : Option Symbol) → find (begun (symbol_spelling s ++ rest)) SYMBOLS ≡ o → o ≡ Some s
symbol_is s rest most None e =
    let shape = symbol_shape s in
    let no : begun (symbol_spelling s ++ rest) s ≡ false = subst (λ r. begun (symbol_spelling s ++ rest) r ≡ false) shape.there (none_passes (begun (symbol_spelling s ++ rest)) symbols.Not SYMBOLS e shape.place (lt_true shape.place 22 shape.within)) in
    absurd (let clash : true ≡ false = sym (begins_itself s rest) ∙ no in cc)
symbol_is s rest most (Some r) e =
    let bytes = symbol_spelling s ++ rest in
    let starts : begun bytes r ≡ true = find_passes (begun bytes) SYMBOLS r e in
    let no_longer = most r starts in
    let no_shorter = longest bytes r e s (begins_itself s rest) in
    let size : length (symbol_spelling r) ≡ length (symbol_spelling s) = omega arith in
    let same : symbol_spelling r ≡ symbol_spelling s = starts_as bytes (symbol_spelling r) starts ∙ ap (λ n. take n bytes) size ∙ take_at (symbol_spelling s) rest (length (symbol_spelling s)) refl in
    ap Some (same_spelling s r (sym same))

symbol_reads : (b : ℕ) (others rest : List ℕ) (s : Symbol) → symbol_spelling s ≡ b ∷ others → symbol_at (symbol_spelling s ++ rest) ≡ Some s → symbol_lexeme (b ∷ (others ++ rest)) ≡ Whole (token.Symbol s) (length others)
unfolding symbol_lexeme
symbol_reads b others rest s is e =
    let bytes : symbol_spelling s ++ rest ≡ b ∷ (others ++ rest) = ap (λ (l : List ℕ). l ++ rest) is in
    let size : length (symbol_spelling s) - 1 ≡ length others = omega (arith, ap length is) in
    ap symbol_found (ap symbol_at (sym bytes) ∙ e) ∙ ap (λ n. Whole (token.Symbol s) n) size

symbol_begins : (s : Symbol) (rest : List ℕ) → ((longer : Symbol) → begun (symbol_spelling s ++ rest) longer ≡ true → length (symbol_spelling longer) ≤ length (symbol_spelling s)) → Begins (symbol_spelling s ++ rest) (length (symbol_spelling s)) (λ more. Whole (token.Symbol s) more)
symbol_begins s rest most =
    let shape = symbol_shape s in
    let at : symbol_at (symbol_spelling s ++ rest) ≡ Some s = ap (option_map (λ r. r)) (symbol_is s rest most (find (begun (symbol_spelling s ++ rest)) SYMBOLS) refl) in
    record {
      first = shape.first;
      others = shape.others ++ rest;
      is = ap (λ (l : List ℕ). l ++ rest) shape.is;
      more = length shape.others;
      count = ap length shape.is;
      reads = shape.reads (shape.others ++ rest) ∙ symbol_reads shape.first shape.others rest s shape.is at;
    }

pub token_found : (t : Token) (piece rest : List ℕ) → Spells t piece rest → Begins (piece ++ rest) (length piece) (λ more. Whole t more)
token_found _ _ _ (name b bs rest letter all lt free stop) = record { first = b; others = bs ++ rest; is = refl; more = length bs; count = refl; reads = name_found_as b bs rest None letter all stop lt (not_named (b ∷ bs) free) }
token_found _ _ _ (word w rest stop) = word_found w rest stop
token_found _ _ _ (nought rest) = record { first = 48; others = rest; is = refl; more = 0; count = refl; reads = nought_found rest }
token_found _ _ _ (number b bs rest digit ne all lt stop) = record { first = b; others = bs ++ rest; is = refl; more = length bs; count = refl; reads = number_found b bs rest digit ne all lt stop }
token_found _ _ _ (text bs rest all le) = record { first = 34; others = bs ++ 34 ∷ [] ++ rest; is = refl; more = length bs + 1; count = ap suc (length-append bs (34 ∷ [])); reads = text_found bs rest all le }
token_found _ _ _ (symbol s rest most) = symbol_begins s rest most
