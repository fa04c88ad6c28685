-- What the options say, and which command the words say.
use Rattle.std.specs.Prelude.{◌≡◌, ℕ, ◌≤◌, ◌<◌, ◌^◌, ◌==◌, Bool, true, false, List, [], ◌∷◌, Option, Some, None, IfSome, is_some, unwrap_or, option_map, Vec}
use Rattle.std.specs.Option.{option_map_or}
use Rattle.std.specs.Str.{bytes_eq}
use Rattle.std.specs.Fmt.{decimal}
use Rattle.std.specs.declared.alloc.Global.{Global}
use Rattle.promise_spec.specs.Words.{Choice, Width, Turns, Workers, GivenOption, Manner, IsWithin, list_text, Command, Init, Run, Show, History, Audit, Load, Check, Compact, Upgrade, Migrate}
use Rattle.command_words.specs.declared.word_parts.CutWords.{CutWords}
use Rattle.command_words.specs.declared.words.RunOptions.{RunOptions}
use Rattle.command_words.specs.declared.words.LoadOptions.{LoadOptions}
use Rattle.command_words.specs.declared.words.Words.{Words}
use Rattle.command_words.specs.declared.words.Words.TheVariants as words
use Rattle.command_words.specs.Parts.{WidthName, TurnsName, WorkersName, WordPart, option_values, number_words}
use Rattle.command_words.specs.CutParts.{HaveParts, one_value}

-- the values of the options that are given
pub record Chosen : Type 0 where
  pub width : Option ℕ
  pub turns : Option (List ℕ)
  pub workers : Option ℕ

-- a value as a text, or none
abbrev pub number_text : Option ℕ → List (List ℕ)
number_text None = []
number_text (Some n) = decimal n ∷ []

-- the text of a list of picks, or none
abbrev pub picks_text : Option (List ℕ) → List (List ℕ)
picks_text None = []
picks_text (Some picks) = list_text picks ∷ []

-- the words that were cut spell these values
pub record AreChosen (cut : CutWords) (chosen : Chosen) : Type 0 where
  pub width : one_value cut.width ≡ number_text chosen.width
  pub turns : one_value cut.turns ≡ picks_text chosen.turns
  pub workers : one_value cut.workers ≡ number_text chosen.workers

-- and so do the parts
pub record AreSpelled (parts : List WordPart) (chosen : Chosen) : Type 0 where
  pub width : option_values WidthName parts ≡ number_text chosen.width
  pub turns : option_values TurnsName parts ≡ picks_text chosen.turns
  pub workers : option_values WorkersName parts ≡ number_text chosen.workers

-- values that the options take, where workers stand beside no other
pub record MayStand (chosen : Chosen) : Type 0 where
  pub width : IfSome chosen.width (λ n. IsWithin (Width n))
  pub turns : IfSome chosen.turns (λ picks. IsWithin (Turns picks))
  pub workers : IfSome chosen.workers (λ n. IsWithin (Workers n))
  pub alone : is_some chosen.workers ≡ true → (chosen.width ≡ None) × (chosen.turns ≡ None)

-- the words have parts that spell values which may stand together, and these words that are no option
pub record Ask (words : List (List ℕ)) (chosen : Chosen) (numbers : List (List ℕ)) : Type 0 where
  pub parts : List WordPart
  pub have : HaveParts words parts
  pub spelled : AreSpelled parts chosen
  pub may : MayStand chosen
  pub numbers_are : number_words parts ≡ numbers

-- the numbers of a load: 1 to 100,000 transfers, and a seed below 2 to the 64
abbrev pub AreLoadNumbers : ℕ → ℕ → Type 0
AreLoadNumbers transfers seed = (1 ≤ transfers) × (transfers ≤ 100000) × (seed < 2 ^ 64)

-- the numbers of a check: 10,000 starts at most, and a seed below 2 to the 64
abbrev pub AreCheckNumbers : ℕ → ℕ → Type 0
AreCheckNumbers starts seed = (starts ≤ 10000) × (seed < 2 ^ 64)

-- the first word is this one
abbrev pub is_first : List ℕ → List (List ℕ) → Bool
is_first name [] = false
is_first name (word ∷ words) = bytes_eq word name

-- the manner that they choose: width 1, no picks and no workers where they say nothing
abbrev pub chosen_manner : Chosen → Manner
chosen_manner chosen = record { threaded = is_some chosen.workers; width = unwrap_or chosen.width 1; picks = unwrap_or chosen.turns [] }

-- the option is no other number of workers
abbrev pub is_choice_asked : Option ℕ → Choice → Bool
is_choice_asked workers (Width n) = true
is_choice_asked workers (Turns picks) = true
is_choice_asked workers (Workers n) = option_map_or (λ k. k == n) workers false

-- ---- the answers

-- the values that a run's options have
abbrev pub run_chosen : RunOptions → Chosen
run_chosen options = record { width = options.width; turns = option_map (λ (picks : Vec ℕ Global). picks.items) options.turns; workers = options.workers }

-- the values that a load's options have: it takes no picks
abbrev pub load_chosen : LoadOptions → Chosen
load_chosen options = record { width = options.width; turns = None; workers = options.workers }

-- the command that the answer is
abbrev pub command_of : Words → Command
command_of words.Init = Init
command_of (words.Run options) = Run (chosen_manner (run_chosen options))
command_of words.Show = Show
command_of words.History = History
command_of words.Audit = Audit
command_of (words.Load options) = Load options.transfers options.seed (chosen_manner (load_chosen options))
command_of (words.Check numbers) = Check numbers.starts numbers.seed
command_of words.Compact = Compact
command_of words.Upgrade = Upgrade
command_of words.Migrate = Migrate

-- an option that the answer may stem from: workers are as many as it has
abbrev pub workers_of : Words → Option ℕ
workers_of (words.Run options) = options.workers
workers_of (words.Load options) = options.workers
workers_of _ = None

-- the answer of these words may stem from this option
abbrev pub has_option : Words → GivenOption → Bool
has_option w given = is_choice_asked (workers_of w) given.what
