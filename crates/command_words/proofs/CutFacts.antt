-- What the proofs of cutting cite.
use Rattle.std.proofs.Common.{inl, inr, ◌≡◌, ◌∙◌, ℕ, ◌≤◌, Bool, true, false, List, [], ◌∷◌, Option, Some, None, refl, sym, ap, subst, true≢false, drop, length, map, codes}
use Rattle.std.proofs.Common.{◌-◌, take, arith}
use Rattle.std.proofs.Math.Seq.{take-length as take_length}
use Rattle.std.specs.Prelude.{◌⊎◌, ◌||◌, String, string_bytes, unwrap_or}
use Rattle.std.specs.List.{list_any}
use Rattle.std.specs.declared.alloc.Global.{Global}
use Rattle.clap.specs.Walk.{rows_of}
use Rattle.clap.specs.Simple.{matches_of}
use Rattle.clap.specs.Faults.{fault_of}
use Rattle.clap.specs.Kinds.{Kinds, HasKind}
use Rattle.clap.specs.Values.{kind_of}
use Rattle.clap.specs.declared.error.Error.{Error}
use Rattle.clap.specs.declared.error.kind.ErrorKind.TheVariants as kind
use Rattle.clap.specs.declared.parser.matches.Found.{Found}
use Rattle.clap.proofs.WalkLemmas.{raw_values-rows}
use Rattle.command_words.specs.Parts.{OptionName, WordPart, bare_name, is_stray, word_parts_from, option_values, number_words}
use Rattle.command_words.specs.Clap.{silo_app, matched_values, SaysParts}
use Rattle.command_words.specs.CutParts.{AreUsual, HaveParts, AreFew, texts_of}
use Rattle.command_words.proofs.Rows.{values_at}
use Rattle.command_words.proofs.ClapWalk.{ParsesTo, parses}

-- ---- stray words

stray_in_texts : (words : List (String Global)) → list_any is_stray (map string_bytes words) ≡ list_any (λ (word : String Global). is_stray (string_bytes word)) words
stray_in_texts [] = refl
stray_in_texts (word ∷ words) = ap (λ (b : Bool). is_stray (string_bytes word) || b) (stray_in_texts words)

pub stray_behind : (words : List (String Global))
    → list_any (λ (word : String Global). is_stray (string_bytes word)) (take (length words - 1) (drop 1 words)) ≡ list_any is_stray (drop 1 (texts_of words))
stray_behind [] = refl
stray_behind (word ∷ words) =
    let all : take (length (word ∷ words) - 1) words ≡ words = ap (λ (n : ℕ). take n words) (omega arith) ∙ take_length words in
    ap (list_any (λ (w : String Global). is_stray (string_bytes w))) all ∙ sym (stray_in_texts words)

pub none_stray : (words : List (List ℕ)) → list_any is_stray words ≡ false → AreUsual words
none_stray [] e = tt
none_stray (word ∷ words) e = go (is_stray word) refl e (none_stray words)
  where
    go : (b : Bool) → is_stray word ≡ b → (b || list_any is_stray words) ≡ false → (list_any is_stray words ≡ false → AreUsual words) → AreUsual (word ∷ words)
    go true s e later = absurd (true≢false e)
    go false s e later = (s, later e)

pub some_stray : (words : List (List ℕ)) → list_any is_stray words ≡ true → AreUsual words → ⊥
some_stray [] e usual = true≢false (sym e)
some_stray (word ∷ words) e usual = some_stray words (rw usual.0 at e) usual.1

-- ---- parts

-- the parts of words are their only ones
pub same_parts : (words : List (List ℕ)) (a b : List WordPart) → HaveParts words a → HaveParts words b → a ≡ b
same_parts words a b h k = ap list_in (sym h.parted ∙ k.parted)
  where
    list_in : Option (List WordPart) → List WordPart
    list_in None = []
    list_in (Some parts) = parts

values_are : (found : Found) (id : List ℕ) → matched_values found id ≡ values_at id (rows_of found)
values_are found id = ap (λ (o : Option (List (List ℕ))). unwrap_or o []) (raw_values-rows found id)

-- what clap takes has parts, and its matches say them
pub taken : (words : List (List ℕ)) (found : Found) → list_any is_stray (drop 1 words) ≡ false → fault_of silo_app words ≡ [] → rows_of found ≡ matches_of silo_app words
    → (parts : List WordPart) × HaveParts (drop 1 words) parts × SaysParts found parts
taken words found usual well rows = go (word_parts_from None (drop 1 words)) refl (parses words (none_stray (drop 1 words) usual))
  where
    go : (c : Option (List WordPart)) → word_parts_from None (drop 1 words) ≡ c → ParsesTo words c → (parts : List WordPart) × HaveParts (drop 1 words) parts × SaysParts found parts
    go None e p = absurd (p well)
    go (Some parts) e p = (
      parts,
      record { usual = none_stray (drop 1 words) usual; parted = e },
      record {
        options = λ name. values_are found (bare_name name) ∙ ap (values_at (bare_name name)) rows ∙ p.1 name;
        numbers = values_are found (codes "number") ∙ ap (values_at (codes "number")) rows ∙ p.2;
      },
    )

-- what clap refuses has none, unless memory is wanting
pub refused : (words : List (List ℕ)) (e : Error) → HasKind (fault_of silo_app words) e → (kind_of e ≡ kind.OutOfMemory → ⊥)
    → (parts : List WordPart) → HaveParts (drop 1 words) parts → ⊥
refused words e has room parts h = go (word_parts_from None (drop 1 words)) h.parted (parses words h.usual) has
  where
    none : (kinds : Kinds) → kinds ≡ [] → HasKind kinds e → ⊥
    none kinds well k = elim (subst (λ (ks : Kinds). HasKind ks e) well k) [
      | inl m ↦ room m
      | inr m ↦ m
    ]

    go : (c : Option (List WordPart)) → c ≡ Some parts → ParsesTo words c → HasKind (fault_of silo_app words) e → ⊥
    go None s p k = absurd (cc s)
    go (Some others) s p k = none (fault_of silo_app words) p.0 k

-- an option that comes twice, or a number too many or too few
pub comes_twice : (words : List (List ℕ)) (found : Found) (parts : List WordPart) (name : OptionName) → HaveParts words parts → SaysParts found parts
    → (length (matched_values found (bare_name name)) ≤ 1 → ⊥) → (others : List WordPart) → HaveParts words others → AreFew others → ⊥
comes_twice words found parts name h s twice others k few =
    let same : parts ≡ others = same_parts words parts others h k in
    let values : matched_values found (bare_name name) ≡ option_values name others = s.options name ∙ ap (option_values name) same in
    twice (subst (λ (l : List (List ℕ)). length l ≤ 1) (sym values) (few.once name))

pub unpaired : (words : List (List ℕ)) (found : Found) (parts : List WordPart) → HaveParts words parts → SaysParts found parts
    → ((length (matched_values found (codes "number")) ≡ 0) ⊎ (length (matched_values found (codes "number")) ≡ 2) → ⊥)
    → (others : List WordPart) → HaveParts words others → AreFew others → ⊥
unpaired words found parts h s odd others k few =
    let same : parts ≡ others = same_parts words parts others h k in
    let values : matched_values found (codes "number") ≡ number_words others = s.numbers ∙ ap number_words same in
    odd (subst (λ (l : List (List ℕ)). (length l ≡ 0) ⊎ (length l ≡ 2)) (sym values) few.paired)
