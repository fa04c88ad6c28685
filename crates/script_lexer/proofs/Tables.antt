-- Searches in the tables of words and symbols.
use Rattle.std.proofs.Common.{◌≡◌, ◌≢◌, ℕ, zero, suc, ◌<◌, ◌≤◌, Bool, true, false, cond, ◌&&◌, ◌⊎◌, inl, inr, List, [], ◌∷◌, ◌++◌, Some, None, length, take, drop, get_or, refl, sym, ap, subst, ◌∙◌, arith}
use Rattle.std.specs.Prelude.{nat_eq, nat_le, bytes_eq}
use Rattle.std.specs.List.{find, list_all, starts_with}
use Rattle.std.specs.Option.{option_map}
use Rattle.std.proofs.lemmas.Bool.Decides.{nat_tests}
use Rattle.std.proofs.lemmas.Slice.Eq.{bytes_eq-Decides}
use Rattle.script_lexer.specs.declared.lexemes.TheConstants.{WORDS, SYMBOLS}
use Rattle.script_lexer.specs.declared.tokens.Symbol.{Symbol}
use Rattle.script_lexer.specs.declared.tokens.Symbol.TheVariants as symbol
use Rattle.script_lexer.specs.declared.tokens.Word.{Word}
use Rattle.script_lexer.specs.declared.tokens.Word.TheVariants as word
use Rattle.script_lexer.specs.Spellings.{word_spelling, symbol_spelling}
use Rattle.script_lexer.specs.Lexemes.{word_named}
use Rattle.script_lexer.proofs.LexemeEnds.{find_passes}

module _ {A : Type 0} (p : A → Bool) where
  none_turn : (y d : A) (ys : List A) (q : Bool) → p y ≡ q → cond q (Some y) (find p ys) ≡ None → (find p ys ≡ None → (i : ℕ) → i < length ys → p (get_or ys i d) ≡ false) → (i : ℕ) → i < suc (length ys) → p (get_or (y ∷ ys) i d) ≡ false
  none_turn y d ys true e n rest i lt = absurd cc
  none_turn y d ys false e n rest zero lt = e
  none_turn y d ys false e n rest (suc i) lt = rest n i (omega arith)

  -- what isn't found doesn't pass
  pub none_passes : (d : A) (xs : List A) → find p xs ≡ None → (i : ℕ) → i < length xs → p (get_or xs i d) ≡ false
  none_passes d [] e i lt = absurd (omega arith)
  none_passes d (y ∷ ys) e i lt = none_turn y d ys (p y) refl e (none_passes d ys) i lt

  -- where nothing passes nothing is found
  pub finds_none : (xs : List A) → ((x : A) → p x ≡ false) → find p xs ≡ None
  finds_none [] h = refl
  finds_none (x ∷ xs) h = rw h (finds_none xs h)

  -- what is found in two lists
  pub found_in_two : (xs ys : List A) (x : A) → find p (xs ++ ys) ≡ Some x → (find p xs ≡ Some x) ⊎ (find p xs ≡ None)
  found_in_two [] ys x e = inr refl
  found_in_two (z ∷ zs) ys x e = two_turn (p z) e (found_in_two zs ys x) where
    two_turn : (q : Bool) → cond q (Some z) (find p (zs ++ ys)) ≡ Some x → (find p (zs ++ ys) ≡ Some x → (find p zs ≡ Some x) ⊎ (find p zs ≡ None)) → (cond q (Some z) (find p zs) ≡ Some x) ⊎ (cond q (Some z) (find p zs) ≡ None)
    two_turn true h rest = inl h
    two_turn false h rest = rest h

  held_turn : (q : A → Bool) (y x : A) (ys : List A) (b : Bool) → cond b (Some y) (find p ys) ≡ Some x → (q y && list_all q ys) ≡ true → (find p ys ≡ Some x → list_all q ys ≡ true → q x ≡ true) → q x ≡ true
  held_turn q y x ys true e all rest = let same : y ≡ x = cc in subst (λ z. q z ≡ true) same (first (q y) (list_all q ys) all) where
    first : (a b : Bool) → (a && b) ≡ true → a ≡ true
    first true b h = refl
    first false b h = h
  held_turn q y x ys false e all rest = rest e (second (q y) (list_all q ys) all) where
    second : (a b : Bool) → (a && b) ≡ true → b ≡ true
    second true b h = h
    second false b h = let no : false ≡ true = h in absurd cc

  -- what is found has what all of the list have
  pub found_holds : (q : A → Bool) (xs : List A) (x : A) → find p xs ≡ Some x → list_all q xs ≡ true → q x ≡ true
  found_holds q [] x e all = absurd cc
  found_holds q (y ∷ ys) x e all = held_turn q y x ys (p y) e all (found_holds q ys x)

-- the place of a word in the table
word_place : (w : Word) → (i : ℕ) × (i < 13) × (get_or WORDS i word.Type ≡ w)
word_place word.Type = (0, omega arith, refl)
word_place word.Field = (1, omega arith, refl)
word_place word.Method = (2, omega arith, refl)
word_place word.Let = (3, omega arith, refl)
word_place word.Set = (4, omega arith, refl)
word_place word.If = (5, omega arith, refl)
word_place word.Else = (6, omega arith, refl)
word_place word.While = (7, omega arith, refl)
word_place word.Return = (8, omega arith, refl)
word_place word.Fail = (9, omega arith, refl)
word_place word.Call = (10, omega arith, refl)
word_place word.Attempt = (11, omega arith, refl)
word_place word.Key = (12, omega arith, refl)

abbrev spelled : List ℕ → Word → Bool
spelled name w = bytes_eq (word_spelling w) name

-- a name that isn't reserved is no word's spelling
pub unnamed : (name : List ℕ) → find (spelled name) WORDS ≡ None → (w : Word) → word_spelling w ≢ name
unnamed name e w same =
    let at = word_place w in
    let no : spelled name w ≡ false = subst (λ v. spelled name v ≡ false) at.2 (none_passes (spelled name) word.Type WORDS e at.0 at.1) in
    let yes : spelled name w ≡ true = (bytes_eq-Decides (word_spelling w) name).1 same in
    absurd (let clash : true ≡ false = sym yes ∙ no in cc)

-- and a name that is one is
pub named : (name : List ℕ) (w : Word) → find (spelled name) WORDS ≡ Some w → word_spelling w ≡ name
named name w e = (bytes_eq-Decides (word_spelling w) name).0 (find_passes (spelled name) WORDS w e)

unspelled : (name : List ℕ) (w : Word) (b : Bool) → spelled name w ≡ b → word_spelling w ≢ name → b ≡ false
unspelled name w true e ne = absurd (ne ((bytes_eq-Decides (word_spelling w) name).0 e))
unspelled name w false e ne = refl

pub not_named : (name : List ℕ) → ((w : Word) → word_spelling w ≢ name) → word_named name ≡ None
not_named name h = ap (option_map (λ w. w)) (finds_none (spelled name) WORDS (λ w. unspelled name w (spelled name w) refl (h w)))

-- ---- symbols

abbrev pub begun : List ℕ → Symbol → Bool
begun bytes s = starts_with nat_eq bytes (symbol_spelling s)

-- every symbol has one byte or two
pub short : (s : Symbol) → nat_le (length (symbol_spelling s)) 2 ≡ true
short symbol.Not = refl
short _ = refl

pub some_bytes : (s : Symbol) → nat_le 1 (length (symbol_spelling s)) ≡ true
some_bytes symbol.Not = refl
some_bytes _ = refl

abbrev pairs : List Symbol
pairs = take 6 SYMBOLS

-- those of two bytes stand first in the table
pair_place : (s : Symbol) → (nat_le (length (symbol_spelling s)) 1 ≡ true) ⊎ ((i : ℕ) × (i < 6) × (get_or pairs i symbol.Not ≡ s))
pair_place symbol.LessEqual = inr (0, omega arith, refl)
pair_place symbol.GreaterEqual = inr (1, omega arith, refl)
pair_place symbol.Equal = inr (2, omega arith, refl)
pair_place symbol.NotEqual = inr (3, omega arith, refl)
pair_place symbol.And = inr (4, omega arith, refl)
pair_place symbol.Or = inr (5, omega arith, refl)
pair_place _ = inl refl

-- of those that the bytes begin with, the one that is found is the longest
pub longest : (bytes : List ℕ) (s : Symbol) → find (begun bytes) SYMBOLS ≡ Some s → (longer : Symbol) → begun bytes longer ≡ true → length (symbol_spelling longer) ≤ length (symbol_spelling s)
longest bytes s e longer b = in_pairs (found_in_two (begun bytes) pairs (drop 6 SYMBOLS) s e) where
  within_two : nat_le (length (symbol_spelling longer)) 2 ≡ true
  within_two = short longer

  one_or_pair : find (begun bytes) pairs ≡ None → (nat_le (length (symbol_spelling longer)) 1 ≡ true) ⊎ ((i : ℕ) × (i < 6) × (get_or pairs i symbol.Not ≡ longer)) → length (symbol_spelling longer) ≤ length (symbol_spelling s)
  one_or_pair n (inl one) = let some = some_bytes s in grind (arith, nat_tests)
  one_or_pair n (inr at) =
      let no : begun bytes longer ≡ false = subst (λ r. begun bytes r ≡ false) at.2 (none_passes (begun bytes) symbol.Not pairs n at.0 at.1) in
      absurd (let clash : true ≡ false = sym b ∙ no in cc)

  in_pairs : (find (begun bytes) pairs ≡ Some s) ⊎ (find (begun bytes) pairs ≡ None) → length (symbol_spelling longer) ≤ length (symbol_spelling s)
  in_pairs (inl f) =
      let two : nat_le 2 (length (symbol_spelling s)) ≡ true = found_holds (begun bytes) (λ r. nat_le 2 (length (symbol_spelling r))) pairs s f refl in
      let most = short longer in
      grind (arith, nat_tests)
  in_pairs (inr n) = one_or_pair n (pair_place longer)
