-- An entry's line is one line: its JSON text holds no line feed.
use Rattle.std.proofs.Common.{◌≡◌, ℕ, zero, suc, ◌/◌, ◌%◌, ◌==◌, nat_lt, List, [], ◌∷◌, ◌++◌, Bool, true, false, cond, if◌then◌else◌, refl, ap, ◌∙◌, arith, pos, negsuc, append_assoc, decimal}
use Rattle.std.proofs.lemmas.Bool.Decides.{nat_tests}
use Rattle.std.specs.Char.{digit_char}
use Rattle.std.specs.Fmt.{digit_glyph, digits_onto, digits}
use Rattle.std.specs.List.{slice_split}
use Rattle.std.specs.Prelude.{⊤}
use Rattle.base_types.specs.declared.entries.Entry.{Entry}
use Rattle.base_types.specs.declared.shapes.Shape.{Shape}
use Rattle.json.specs.Print.{escape_letter, escape_byte, escape, quoted, token_text}
use Rattle.json.specs.Token.{Token}
use Rattle.serde_json.specs.Data.{Num, unsigned, negative, float, Data, null, boolean, number, string, array, object, Items, no_items, item, Members, no_members, member}
use Rattle.serde_json.specs.Written.{number_text, compact_text, items_text, members_text, comma_if}
use Rattle.request_wire.specs.Lines.{lines_of, without_empty_last}
use Rattle.request_wire.specs.Reply.{reply_data, reply_line}
use Rattle.request_wire.proofs.Cuts.{slice_split-cons, keeps_first}

-- no byte is a line feed
abbrev HasNoFeed : List ℕ → Type 0
HasNoFeed [] = ⊤
HasNoFeed (x ∷ xs) = ((x == 10) ≡ false) × HasNoFeed xs

append-no_feed : (xs ys : List ℕ) → HasNoFeed xs → HasNoFeed ys → HasNoFeed (xs ++ ys)
append-no_feed [] ys h k = k
append-no_feed (x ∷ xs) ys h k = (h.0, append-no_feed xs ys h.1 k)

-- ---- numbers

glyph-no_feed : (upper : Bool) (d : ℕ) → (digit_glyph upper d == 10) ≡ false
glyph-no_feed upper d = grind (arith, nat_tests)

digits_onto-no_feed : (k base : ℕ) (upper : Bool) (n : ℕ) (rest : List ℕ) → HasNoFeed rest → HasNoFeed (digits_onto k base upper n rest)
digits_onto-no_feed zero base upper n rest h = h
digits_onto-no_feed (suc k) base upper n rest h =
    elim (n / base == 0) as (λ b. HasNoFeed (if b then digit_glyph upper (n % base) ∷ rest else digits_onto k base upper (n / base) (digit_glyph upper (n % base) ∷ rest))) [
      | true ↦ (glyph-no_feed upper (n % base), h)
      | false ↦ digits_onto-no_feed k base upper (n / base) (digit_glyph upper (n % base) ∷ rest) (glyph-no_feed upper (n % base), h)
    ]

decimal-no_feed : (n : ℕ) → HasNoFeed (decimal n)
unfolding digits
decimal-no_feed n = digits_onto-no_feed 64 10 false n [] tt

number_text-no_feed : (n : Num) → HasNoFeed (number_text n)
number_text-no_feed (unsigned n) = decimal-no_feed n
number_text-no_feed (negative (pos n)) = decimal-no_feed n
number_text-no_feed (negative (negsuc n)) = (refl, decimal-no_feed (suc n))
number_text-no_feed (float x) = tt

-- ---- strings

letter-no_feed : (x : ℕ) → (escape_letter x == 10) ≡ false
letter-no_feed x = grind (arith, nat_tests)

digit_char-no_feed : (d : ℕ) → (digit_char d == 10) ≡ false
digit_char-no_feed d = grind (arith, nat_tests)

-- a line feed is escaped, and what has no escape is none
unescaped-no_feed : (x : ℕ) → nat_lt 0 (escape_letter x) ≡ false → (x == 10) ≡ false
unescaped-no_feed x e = grind (arith, nat_tests)

escape_byte-no_feed : (x : ℕ) → HasNoFeed (escape_byte x)
unfolding escape_byte
escape_byte-no_feed x = by_letter (nat_lt 0 (escape_letter x)) refl
  where
    by_control : (b : Bool) → nat_lt 0 (escape_letter x) ≡ false → HasNoFeed (cond b (92 ∷ 117 ∷ 48 ∷ 48 ∷ digit_char (x / 16) ∷ digit_char (x % 16) ∷ []) (x ∷ []))
    by_control true none = (refl, (refl, (refl, (refl, (digit_char-no_feed (x / 16), (digit_char-no_feed (x % 16), tt))))))
    by_control false none = (unescaped-no_feed x none, tt)

    by_letter : (b : Bool) → nat_lt 0 (escape_letter x) ≡ b → HasNoFeed (cond b (92 ∷ escape_letter x ∷ []) (cond (nat_lt x 32) (92 ∷ 117 ∷ 48 ∷ 48 ∷ digit_char (x / 16) ∷ digit_char (x % 16) ∷ []) (x ∷ [])))
    by_letter true is = (refl, (letter-no_feed x, tt))
    by_letter false is = by_control (nat_lt x 32) is

escape-no_feed : (s : List ℕ) → HasNoFeed (escape s)
escape-no_feed [] = tt
escape-no_feed (x ∷ xs) = append-no_feed (escape_byte x) (escape xs) (escape_byte-no_feed x) (escape-no_feed xs)

quoted-no_feed : (s : List ℕ) → HasNoFeed (quoted s)
quoted-no_feed s = (refl, append-no_feed (escape s) (34 ∷ []) (escape-no_feed s) (refl, tt))

boolean-no_feed : (b : Bool) → HasNoFeed (token_text (Token.boolean b))
boolean-no_feed true = (refl, (refl, (refl, (refl, tt))))
boolean-no_feed false = (refl, (refl, (refl, (refl, (refl, tt)))))

comma-no_feed : (later : Bool) → HasNoFeed (comma_if later)
comma-no_feed true = (refl, tt)
comma-no_feed false = tt

-- ---- values

mutual
  compact_text-no_feed : (d : Data) → HasNoFeed (compact_text d)
  compact_text-no_feed null = (refl, (refl, (refl, (refl, tt))))
  compact_text-no_feed (boolean b) = boolean-no_feed b
  compact_text-no_feed (number n) = number_text-no_feed n
  compact_text-no_feed (string s) = quoted-no_feed s
  compact_text-no_feed (array ds) = (refl, items_text-no_feed false ds)
  compact_text-no_feed (object ms) = (refl, members_text-no_feed false ms)

  items_text-no_feed : (later : Bool) (ds : Items) → HasNoFeed (items_text later ds)
  items_text-no_feed later no_items = (refl, tt)
  items_text-no_feed later (item d ds) =
      append-no_feed (comma_if later) (compact_text d ++ items_text true ds) (comma-no_feed later)
      (append-no_feed (compact_text d) (items_text true ds) (compact_text-no_feed d) (items_text-no_feed true ds))

  members_text-no_feed : (later : Bool) (ms : Members) → HasNoFeed (members_text later ms)
  members_text-no_feed later no_members = (refl, tt)
  members_text-no_feed later (member k d ms) =
      append-no_feed (comma_if later) (quoted k ++ 58 ∷ (compact_text d ++ members_text true ms)) (comma-no_feed later)
      (append-no_feed (quoted k) (58 ∷ (compact_text d ++ members_text true ms)) (quoted-no_feed k)
      (refl, append-no_feed (compact_text d) (members_text true ms) (compact_text-no_feed d) (members_text-no_feed true ms)))

-- ---- lines

split_at_feed : (line rest : List ℕ) → HasNoFeed line → slice_split (λ b. b == 10) (line ++ (10 ∷ rest)) ≡ line ∷ slice_split (λ b. b == 10) rest
split_at_feed [] rest h = refl
split_at_feed (x ∷ xs) rest h = rw (h.0, split_at_feed xs rest h.1) refl

lines_of-first : (line rest : List ℕ) → HasNoFeed line → lines_of (line ++ (10 ∷ rest)) ≡ line ∷ lines_of rest
lines_of-first line rest h =
    let some = slice_split-cons (λ b. b == 10) rest in
    ap without_empty_last (split_at_feed line rest h) ∙ keeps_first line some.0 some.1 (slice_split (λ b. b == 10) rest) some.2

-- an entry's line in front of anything is the first line
pub reply_line-first : (shape : Shape) (entry : Entry) (rest : List ℕ) → lines_of (reply_line shape entry ++ rest) ≡ compact_text (reply_data shape entry) ∷ lines_of rest
reply_line-first shape entry rest =
    let text = compact_text (reply_data shape entry) in
    ap lines_of (append_assoc text (10 ∷ []) rest) ∙ lines_of-first text rest (compact_text-no_feed (reply_data shape entry))
