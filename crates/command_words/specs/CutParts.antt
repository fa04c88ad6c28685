-- What words are cut into, and that they are cut so.
use Rattle.std.specs.Prelude.{◌≡◌, ◌⊎◌, ℕ, ◌≤◌, false, List, [], ◌∷◌, Option, Some, None, length, map, String, string_bytes}
use Rattle.std.specs.List.{AllByRecursion}
use Rattle.std.specs.declared.alloc.Global.{Global}
use Rattle.std.specs.Borrow.{Bor}
use Rattle.command_words.specs.Parts.{OptionName, WidthName, TurnsName, WorkersName, WordPart, is_stray, word_parts_from, option_values, number_words}
use Rattle.command_words.specs.declared.word_parts.CutWords.{CutWords}

-- the texts of words
abbrev pub texts_of : List (String Global) → List (List ℕ)
texts_of words = map string_bytes words

-- no word is stray
abbrev pub AreUsual : List (List ℕ) → Type 0
AreUsual words = AllByRecursion (λ word. is_stray word ≡ false) words

-- the words have these parts
pub record HaveParts (words : List (List ℕ)) (parts : List WordPart) : Type 0 where
  pub usual : AreUsual words
  pub parted : word_parts_from None words ≡ Some parts

-- each option is there at most once, and there are two numbers or none
pub record AreFew (parts : List WordPart) : Type 0 where
  pub once : (name : OptionName) → length (option_values name parts) ≤ 1
  pub paired : (length (number_words parts) ≡ 0) ⊎ (length (number_words parts) ≡ 2)

-- a value, or none, and two or none
abbrev pub one_value : Option (Bor (List ℕ)) → List (List ℕ)
one_value None = []
one_value (Some value) = value.now ∷ []

-- the values of a pair of references, or none
abbrev pub two_values : Option (Bor (List ℕ) × Bor (List ℕ)) → List (List ℕ)
two_values None = []
two_values (Some pair) = pair.0.now ∷ pair.1.now ∷ []

-- what was cut is what the parts say
pub record AreCutInto (parts : List WordPart) (cut : CutWords) : Type 0 where
  pub width : option_values WidthName parts ≡ one_value cut.width
  pub turns : option_values TurnsName parts ≡ one_value cut.turns
  pub workers : option_values WorkersName parts ≡ one_value cut.workers
  pub numbers : number_words parts ≡ two_values cut.numbers
