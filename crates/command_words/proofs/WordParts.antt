-- Words and their parts: parts are cut from their own words, and words that are cut are those of their parts.
use Rattle.std.proofs.Common.{◌≡◌, ◌∙◌, ℕ, suc, ◌+◌, Bool, true, false, List, [], ◌∷◌, ◌++◌, take, drop, Option, Some, None, refl, sym, ap, subst, true≢false, codes, inl, inr, arith}
use Rattle.std.specs.Prelude.{◌==◌, ⊤}
use Rattle.std.specs.List.{AllByRecursion, before_first, after_first, position_or_len}
use Rattle.std.specs.Str.{bytes_eq}
use Rattle.std.proofs.lemmas.Bool.Decides.{eqb_tells}
use Rattle.std.proofs.lemmas.Slice.Eq.{bytes_eq-Decides}
use Rattle.clap.specs.Lexer.{long_of, has_byte, name_and_value}
use Rattle.promise_spec.specs.Words.{Apart, Joined}
use Rattle.command_words.specs.Parts.{OptionName, WidthName, TurnsName, WorkersName, bare_name, dashed_name, option_of_name, WordPart, OptionPart, NumberPart, part_words, parts_words, is_stray, onto_parts, cut_value, cut_option, cut_word, is_long, word_parts_from}
use Rattle.command_words.specs.CutParts.{HaveParts}

-- ---- a word with two dashes

abbrev is_sign : ℕ → Bool
is_sign b = b == 61

abbrev spelled : List ℕ → Option (List ℕ) → List ℕ
spelled text None = text
spelled text (Some value) = text ++ (61 ∷ value)

-- what stands before and after the sign, with it, is the text
at_sign : (bs : List ℕ) → (has_byte 61 bs ≡ true → bs ≡ before_first is_sign bs ++ (61 ∷ after_first is_sign bs)) × (has_byte 61 bs ≡ false → before_first is_sign bs ≡ bs)
at_sign [] = (λ e. absurd (true≢false (sym e)), λ e. refl)
at_sign (b ∷ bs) =
    let later = at_sign bs in
    let n : ℕ = position_or_len is_sign bs in
    let e : suc n ≡ 1 + n = omega arith in
    let f : suc (n + 1) ≡ 1 + n + 1 = omega arith in
    elim (eqb_tells b 61) [
      | inl h ↦ (λ e. rw h.0 (ap (λ (x : ℕ). x ∷ bs) h.1), λ e. absurd (true≢false (rw h.0 at e)))
      | inr h ↦ (
        λ has. rw h.0 (ap (λ (l : List ℕ). b ∷ l) (later.0 (rw h.0 at has)) ∙ (λ i. take (e i) (b ∷ bs) ++ (61 ∷ drop (f i) (b ∷ bs)))),
        λ has. rw h.0 (ap (λ (m : ℕ). take m (b ∷ bs)) (sym e) ∙ ap (λ (l : List ℕ). b ∷ l) (later.1 (rw h.0 at has))),
      )
    ]

text_back : (bs text : List ℕ) (value : Option (List ℕ)) → name_and_value bs ≡ (text, value) → bs ≡ spelled text value
text_back bs text value e = go (has_byte 61 bs) refl
  where
    facts : (has_byte 61 bs ≡ true → bs ≡ before_first is_sign bs ++ (61 ∷ after_first is_sign bs)) × (has_byte 61 bs ≡ false → before_first is_sign bs ≡ bs)
    facts = at_sign bs

    go : (b : Bool) → has_byte 61 bs ≡ b → bs ≡ spelled text value
    go true h =
        let second : Some (after_first is_sign bs) ≡ value = rw h at (ap (λ (p : List ℕ × Option (List ℕ)). p.1) e) in
        facts.0 h ∙ (λ i. spelled ((ap (λ (p : List ℕ × Option (List ℕ)). p.0) e) i) (second i))
    go false h =
        let second : None ≡ value = rw h at (ap (λ (p : List ℕ × Option (List ℕ)). p.1) e) in
        sym (facts.1 h) ∙ (λ i. spelled ((ap (λ (p : List ℕ × Option (List ℕ)). p.0) e) i) (second i))

abbrev pair_in : List ℕ × Option (List ℕ) → Option (List ℕ × Option (List ℕ)) → List ℕ × Option (List ℕ)
pair_in d None = d
pair_in d (Some p) = p

long_back : (word text : List ℕ) (value : Option (List ℕ)) → long_of word ≡ Some (text, value) → word ≡ 45 ∷ 45 ∷ spelled text value
long_back [] text value e = absurd (cc e)
long_back (a ∷ []) text value e = elim (eqb_tells a 45) [
  | inl h ↦ absurd (cc (rw h.0 at e))
  | inr h ↦ absurd (cc (rw h.0 at e))
]
long_back (a ∷ b ∷ rest) text value e = elim (eqb_tells a 45) [
  | inl h ↦ elim (eqb_tells b 45) [
    | inl g ↦ (λ i. h.1 i ∷ g.1 i ∷ rest) ∙ ap (λ (l : List ℕ). 45 ∷ 45 ∷ l) (go rest (rw (h.0, g.0) at e))
    | inr g ↦ absurd (cc (rw (h.0, g.0) at e))
  ]
  | inr h ↦ absurd (cc (rw h.0 at e))
]
  where
    go : (rest : List ℕ) → long_of (45 ∷ 45 ∷ rest) ≡ Some (text, value) → rest ≡ spelled text value
    go [] e = absurd (cc e)
    go (x ∷ xs) e = text_back (x ∷ xs) text value (ap (pair_in (text, value)) e)

name_back : (text : List ℕ) (name : OptionName) → option_of_name text ≡ Some name → text ≡ bare_name name
name_back text name e = go (bytes_eq (codes "width") text) refl (bytes_eq (codes "turns") text) refl (bytes_eq (codes "workers") text) refl
  where
    same : (t : List ℕ) → bytes_eq t text ≡ true → text ≡ t
    same t h = sym ((bytes_eq-Decides t text).0 h)

    name_in : Option OptionName → OptionName
    name_in None = name
    name_in (Some n) = n

    go : (a : Bool) → bytes_eq (codes "width") text ≡ a → (b : Bool) → bytes_eq (codes "turns") text ≡ b → (c : Bool) → bytes_eq (codes "workers") text ≡ c → text ≡ bare_name name
    go true h b g c f = same (codes "width") h ∙ ap bare_name (ap name_in (rw h at e))
    go false h true g c f = same (codes "turns") g ∙ ap bare_name (ap name_in (rw (h, g) at e))
    go false h false g true f = same (codes "workers") f ∙ ap bare_name (ap name_in (rw (h, g, f) at e))
    go false h false g false f = absurd (cc (rw (h, g, f) at e))

-- an option's word
option_back : (word text : List ℕ) (value : Option (List ℕ)) (name : OptionName) → long_of word ≡ Some (text, value) → option_of_name text ≡ Some name → word ≡ spelled (dashed_name name) value
option_back word text value name e n = long_back word text value e ∙ ap (λ (t : List ℕ). 45 ∷ 45 ∷ spelled t value) (name_back text name n) ∙ go name value
  where
    go : (name : OptionName) (value : Option (List ℕ)) → 45 ∷ 45 ∷ spelled (bare_name name) value ≡ spelled (dashed_name name) value
    go WidthName None = refl
    go WidthName (Some value) = refl
    go TurnsName None = refl
    go TurnsName (Some value) = refl
    go WorkersName None = refl
    go WorkersName (Some value) = refl

-- ---- words that are cut are those of their parts

abbrev front : Option OptionName → List (List ℕ) → List (List ℕ)
front None words = words
front (Some name) words = dashed_name name ∷ words

abbrev WordsBack : Option OptionName → List (List ℕ) → Option (List WordPart) → Type 0
WordsBack waiting words None = ⊤
WordsBack waiting words (Some parts) = front waiting words ≡ parts_words parts

part_back : (waiting : Option OptionName) (words : List (List ℕ)) (part : WordPart) (c : Option (List WordPart)) (rest : List (List ℕ)) → front waiting words ≡ part_words part ++ rest
    → WordsBack None rest c → WordsBack waiting words (onto_parts part c)
part_back waiting words part None rest e back = tt
part_back waiting words part (Some parts) rest e back = e ∙ ap (λ (l : List (List ℕ)). part_words part ++ l) back

module _ (word : List ℕ) (rest : List (List ℕ)) (later : (waiting : Option OptionName) → WordsBack waiting rest (word_parts_from waiting rest)) where
  waiting_back : (name : OptionName) (b : Bool) → WordsBack (Some name) (word ∷ rest) (cut_value name b word (word_parts_from None rest))
  waiting_back name true = tt
  waiting_back name false = part_back (Some name) (word ∷ rest) (OptionPart name Apart word) (word_parts_from None rest) rest refl (later None)

  word_back : (l : Option (List ℕ × Option (List ℕ))) → long_of word ≡ l → WordsBack None (word ∷ rest) (cut_word l word (word_parts_from None rest) (λ name. word_parts_from (Some name) rest))
  word_back None e = part_back None (word ∷ rest) (NumberPart word) (word_parts_from None rest) rest refl (later None)
  word_back (Some p) e = go (option_of_name p.0) refl p.1 e
    where
      moved : (name : OptionName) (c : Option (List WordPart)) → word ≡ dashed_name name → WordsBack (Some name) rest c → WordsBack None (word ∷ rest) c
      moved name None e back = tt
      moved name (Some parts) e back = ap (λ (w : List ℕ). w ∷ rest) e ∙ back

      go : (o : Option OptionName) → option_of_name p.0 ≡ o → (value : Option (List ℕ)) → long_of word ≡ Some (p.0, value)
          → WordsBack None (word ∷ rest) (cut_option o value (word_parts_from None rest) (λ name. word_parts_from (Some name) rest))
      go None n value e = tt
      go (Some name) n None e = moved name (word_parts_from (Some name) rest) (option_back word p.0 None name e n) (later (Some name))
      go (Some name) n (Some value) e =
          part_back None (word ∷ rest) (OptionPart name Joined value) (word_parts_from None rest) rest (ap (λ (w : List ℕ). w ∷ rest) (option_back word p.0 (Some value) name e n)) (later None)

words_back : (words : List (List ℕ)) (waiting : Option OptionName) → WordsBack waiting words (word_parts_from waiting words)
words_back [] None = refl
words_back [] (Some name) = tt
words_back (word ∷ rest) None = word_back word rest (words_back rest) (long_of word) refl
words_back (word ∷ rest) (Some name) = waiting_back word rest (words_back rest) name (is_long (long_of word))

pub parts_spell : (words : List (List ℕ)) (parts : List WordPart) → HaveParts words parts → words ≡ parts_words parts
parts_spell words parts h = subst (WordsBack None words) h.parted (words_back words None)

-- ---- parts are cut from their words

-- no option and not stray
abbrev pub IsPlainWord : List ℕ → Type 0
IsPlainWord word = (long_of word ≡ None) × (is_stray word ≡ false)

abbrev pub IsPlainPart : WordPart → Type 0
IsPlainPart (OptionPart name Apart value) = IsPlainWord value
IsPlainPart (OptionPart name Joined value) = ⊤
IsPlainPart (NumberPart word) = IsPlainWord word

abbrev pub ArePlainParts : List WordPart → Type 0
ArePlainParts parts = AllByRecursion IsPlainPart parts

pub have_parts : (parts : List WordPart) → ArePlainParts parts → HaveParts (parts_words parts) parts
have_parts [] plain = record { usual = tt; parted = refl }
have_parts (NumberPart word ∷ parts) plain =
    let rest = have_parts parts plain.1 in
    record { usual = (plain.0.1, rest.usual); parted = rw plain.0.0 (ap (onto_parts (NumberPart word)) rest.parted) }
have_parts (OptionPart WidthName Apart value ∷ parts) plain =
    let rest = have_parts parts plain.1 in
    record { usual = (refl, (plain.0.1, rest.usual)); parted = rw plain.0.0 (ap (onto_parts (OptionPart WidthName Apart value)) rest.parted) }
have_parts (OptionPart TurnsName Apart value ∷ parts) plain =
    let rest = have_parts parts plain.1 in
    record { usual = (refl, (plain.0.1, rest.usual)); parted = rw plain.0.0 (ap (onto_parts (OptionPart TurnsName Apart value)) rest.parted) }
have_parts (OptionPart WorkersName Apart value ∷ parts) plain =
    let rest = have_parts parts plain.1 in
    record { usual = (refl, (plain.0.1, rest.usual)); parted = rw plain.0.0 (ap (onto_parts (OptionPart WorkersName Apart value)) rest.parted) }
have_parts (OptionPart WidthName Joined value ∷ parts) plain =
    let rest = have_parts parts plain.1 in
    record { usual = (refl, rest.usual); parted = ap (onto_parts (OptionPart WidthName Joined value)) rest.parted }
have_parts (OptionPart TurnsName Joined value ∷ parts) plain =
    let rest = have_parts parts plain.1 in
    record { usual = (refl, rest.usual); parted = ap (onto_parts (OptionPart TurnsName Joined value)) rest.parted }
have_parts (OptionPart WorkersName Joined value ∷ parts) plain =
    let rest = have_parts parts plain.1 in
    record { usual = (refl, rest.usual); parted = ap (onto_parts (OptionPart WorkersName Joined value)) rest.parted }
