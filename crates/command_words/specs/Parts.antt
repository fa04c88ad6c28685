-- The words behind a command's first, cut into options and numbers.
use Rattle.std.specs.Prelude.{ℕ, Bool, true, false, not, ◌==◌, ◌&&◌, List, [], ◌∷◌, Option, Some, None, codes, if◌then◌else◌}
use Rattle.std.specs.List.{flat_map}
use Rattle.std.specs.Str.{bytes_eq}
use Rattle.clap.specs.Lexer.{long_of}
use Rattle.promise_spec.specs.Words.{Form, Apart, Joined, words_in}

-- which option
pub data OptionName : Type 0 where
  WidthName : OptionName
  TurnsName : OptionName
  WorkersName : OptionName

-- its name without dashes, and with them
abbrev pub bare_name : OptionName → List ℕ
bare_name WidthName = codes "width"
bare_name TurnsName = codes "turns"
bare_name WorkersName = codes "workers"

-- its name behind two dashes, as it stands in a word
abbrev pub dashed_name : OptionName → List ℕ
dashed_name WidthName = codes "--width"
dashed_name TurnsName = codes "--turns"
dashed_name WorkersName = codes "--workers"

-- the option of a name without dashes
abbrev pub option_of_name : List ℕ → Option OptionName
option_of_name name = if bytes_eq (codes "width") name then Some WidthName
    else (if bytes_eq (codes "turns") name then Some TurnsName
    else (if bytes_eq (codes "workers") name then Some WorkersName else None))

-- a part of the words: an option with its value, in either form, or a word that is no option
pub data WordPart : Type 0 where
  OptionPart : OptionName → Form → List ℕ → WordPart
  NumberPart : List ℕ → WordPart

-- its words, and those of parts one after another
abbrev pub part_words : WordPart → List (List ℕ)
part_words (OptionPart name form value) = words_in form (dashed_name name) value
part_words (NumberPart word) = word ∷ []

-- the words of these parts, one part's behind the other's
abbrev pub parts_words : List WordPart → List (List ℕ)
parts_words parts = flat_map part_words parts

-- the word is two dashes alone, or begins with one dash and is longer: no option and no number
abbrev pub is_stray : List ℕ → Bool
is_stray [] = false
is_stray (a ∷ []) = false
is_stray (a ∷ b ∷ []) = a == 45
is_stray (a ∷ b ∷ c ∷ rest) = (a == 45) && not (b == 45)

-- ---- cutting

-- a part more before others
abbrev pub onto_parts : WordPart → Option (List WordPart) → Option (List WordPart)
onto_parts part None = None
onto_parts part (Some parts) = Some (part ∷ parts)

-- the word that an option without its value waits for
abbrev pub cut_value : OptionName → Bool → List ℕ → Option (List WordPart) → Option (List WordPart)
cut_value name true word rest = None
cut_value name false word rest = onto_parts (OptionPart name Apart word) rest

-- an option, with the value behind its equals sign where it has one
abbrev pub cut_option : Option OptionName → Option (List ℕ) → Option (List WordPart) → (OptionName → Option (List WordPart)) → Option (List WordPart)
cut_option None value rest waiting = None
cut_option (Some name) None rest waiting = waiting name
cut_option (Some name) (Some value) rest waiting = onto_parts (OptionPart name Joined value) rest

-- a word more: an option's, where it begins with two dashes, or one that is no option
abbrev pub cut_word : Option (List ℕ × Option (List ℕ)) → List ℕ → Option (List WordPart) → (OptionName → Option (List WordPart)) → Option (List WordPart)
cut_word None word rest waiting = onto_parts (NumberPart word) rest
cut_word (Some long) word rest waiting = cut_option (option_of_name long.0) long.1 rest waiting

-- the word begins with two dashes and a name
abbrev pub is_long : Option (List ℕ × Option (List ℕ)) → Bool
is_long None = false
is_long (Some long) = true

-- the parts of words without stray ones, where an option may be waiting for its value; none where an option is unknown
-- or has no value
abbrev pub word_parts_from : Option OptionName → List (List ℕ) → Option (List WordPart)
word_parts_from None [] = Some []
word_parts_from (Some name) [] = None
word_parts_from None (word ∷ words) = cut_word (long_of word) word (word_parts_from None words) (λ name. word_parts_from (Some name) words)
word_parts_from (Some name) (word ∷ words) = cut_value name (is_long (long_of word)) word (word_parts_from None words)

-- ---- what parts say

-- the values of an option among parts
abbrev pub is_same_name : OptionName → OptionName → Bool
is_same_name WidthName WidthName = true
is_same_name TurnsName TurnsName = true
is_same_name WorkersName WorkersName = true
is_same_name _ _ = false

-- the values that these parts give an option, in order
abbrev pub option_values : OptionName → List WordPart → List (List ℕ)
option_values name [] = []
option_values name (OptionPart other form value ∷ parts) = if is_same_name name other then value ∷ option_values name parts else option_values name parts
option_values name (NumberPart word ∷ parts) = option_values name parts

-- and the words that are no option
abbrev pub number_words : List WordPart → List (List ℕ)
number_words [] = []
number_words (OptionPart name form value ∷ parts) = number_words parts
number_words (NumberPart word ∷ parts) = word ∷ number_words parts
