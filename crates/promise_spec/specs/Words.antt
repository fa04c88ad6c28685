-- The words of a command, after the folder.
use Rattle.std.specs.Prelude.{◌≡◌, ◌≢◌, ℕ, ◌<◌, ◌≤◌, ◌^◌, Bool, true, false, List, [], ◌∷◌, ◌++◌, length, codes, ⊤}
use Rattle.std.specs.List.{flat_map, list_any, list_all, AllByRecursion}
use Rattle.std.specs.Fmt.{decimal}

-- ---- options

-- An option with its value: how many lines may be in flight, whose turn it is in turn, or how many workers there are.
pub data Choice : Type 0 where
  Width : ℕ → Choice
  Turns : List ℕ → Choice
  Workers : ℕ → Choice

-- whether an option and its value are two words, or one with an equals sign between them
pub data Form : Type 0 where
  Apart : Form
  Joined : Form

-- an option as it is given
pub record GivenOption : Type 0 where
  pub what : Choice
  pub form : Form

-- an option's name
abbrev pub choice_name : Choice → List ℕ
choice_name (Width n) = codes "--width"
choice_name (Turns picks) = codes "--turns"
choice_name (Workers n) = codes "--workers"

-- numbers with a comma between them
abbrev pub list_text : List ℕ → List ℕ
list_text [] = []
list_text (n ∷ []) = decimal n
list_text (n ∷ m ∷ more) = decimal n ++ (44 ∷ list_text (m ∷ more))

-- a value as text: a number is `0`, or its digits without a leading zero
abbrev pub value_text : Choice → List ℕ
value_text (Width n) = decimal n
value_text (Turns picks) = list_text picks
value_text (Workers n) = decimal n

-- the words of an option
abbrev pub words_in : Form → List ℕ → List ℕ → List (List ℕ)
words_in Apart name value = name ∷ value ∷ []
words_in Joined name value = (name ++ (61 ∷ value)) ∷ []

-- the words that spell an option with its value
abbrev pub words_of : GivenOption → List (List ℕ)
words_of g = words_in g.form (choice_name g.what) (value_text g.what)

-- the words of options one after another
abbrev pub words_of_all : List GivenOption → List (List ℕ)
words_of_all options = flat_map words_of options

-- what values an option takes: a width from 1 to 64, from 1 to 4,096 picks below 2 to the 32, and from 1 to 16 workers
abbrev pub IsWithin : Choice → Type 0
IsWithin (Width n) = (1 ≤ n) × (n ≤ 64)
IsWithin (Turns picks) = (1 ≤ length picks) × (length picks ≤ 4096) × AllByRecursion (λ n. n < 2 ^ 32) picks
IsWithin (Workers n) = (1 ≤ n) × (n ≤ 16)

-- each option at most once
abbrev pub DifferInName : List GivenOption → Type 0
DifferInName [] = ⊤
DifferInName (g ∷ options) = AllByRecursion (λ h. choice_name h.what ≢ choice_name g.what) options × DifferInName options

-- ---- what they choose

-- how a run is to be carried: with workers or on one thread, how many lines may be in flight there, and the picks
pub record Manner : Type 0 where
  pub threaded : Bool
  pub width : ℕ
  pub picks : List ℕ

-- the manner with an option more; without options it is one thread, width 1 and no picks
abbrev pub plain_manner : Manner
plain_manner = record { threaded = false; width = 1; picks = [] }

-- the manner in which one option is chosen too
abbrev pub with_choice : Choice → Manner → Manner
with_choice (Width n) m = record m { width = n }
with_choice (Turns picks) m = record m { picks = picks }
with_choice (Workers n) m = record m { threaded = true }

-- the manner that these options choose
abbrev pub manner_of : List GivenOption → Manner
manner_of [] = plain_manner
manner_of (g ∷ options) = with_choice g.what (manner_of options)

-- the option asks for workers
abbrev pub is_workers : Choice → Bool
is_workers (Workers n) = true
is_workers _ = false

-- Options that may stand together: each is one that is taken, with a value that it takes, at most once, and workers
-- stand beside no other.
pub record AreOptions (takes : GivenOption → Bool) (options : List GivenOption) : Type 0 where
  pub taken : list_all takes options ≡ true
  pub within : AllByRecursion (λ g. IsWithin g.what) options
  pub once : DifferInName options
  pub alone : list_any (λ g. is_workers g.what) options ≡ true → length options ≡ 1

-- ---- commands

-- the words are those of `run`, carried in this manner
pub record SpellsRun (takes : GivenOption → Bool) (words : List (List ℕ)) (m : Manner) : Type 0 where
  pub options : List GivenOption
  pub are : AreOptions takes options
  pub words_are : words ≡ codes "run" ∷ words_of_all options
  pub manner : m ≡ manner_of options

-- no picks are given
abbrev pub IsNoTurns : Choice → Type 0
IsNoTurns (Turns picks) = ⊥
IsNoTurns _ = ⊤

-- the words are those of `load` for so many transfers drawn from this seed; its options may stand before, between and
-- behind the two numbers
pub record SpellsLoad (takes : GivenOption → Bool) (words : List (List ℕ)) (n seed : ℕ) (m : Manner) : Type 0 where
  pub before : List GivenOption
  pub between : List GivenOption
  pub behind : List GivenOption
  pub are : AreOptions takes (before ++ (between ++ behind))
  pub no_turns : AllByRecursion (λ g. IsNoTurns g.what) (before ++ (between ++ behind))
  pub many : (1 ≤ n) × (n ≤ 100000)
  pub small : seed < 2 ^ 64
  pub words_are : words ≡ codes "load" ∷ (words_of_all before ++ (decimal n ∷ (words_of_all between ++ (decimal seed ∷ words_of_all behind))))
  pub manner : m ≡ manner_of (before ++ (between ++ behind))

-- the words are those of `check` for so many starts drawn from this seed; it takes no option
pub record SpellsCheck (words : List (List ℕ)) (n seed : ℕ) : Type 0 where
  pub few : n ≤ 10000
  pub small : seed < 2 ^ 64
  pub words_are : words ≡ codes "check" ∷ (decimal n ∷ (decimal seed ∷ []))

-- what a silo is asked to do
pub data Command : Type 0 where
  Init : Command
  Run : Manner → Command
  Show : Command
  History : Command
  Audit : Command
  Load : ℕ → ℕ → Manner → Command
  Check : ℕ → ℕ → Command
  Compact : Command
  Upgrade : Command
  Migrate : Command

-- The words say this command. Those that only read, `init`, `compact`, `upgrade` and `migrate` are one word.
abbrev pub Say : (GivenOption → Bool) → List (List ℕ) → Command → Type 0
Say takes words Init = words ≡ codes "init" ∷ []
Say takes words (Run m) = SpellsRun takes words m
Say takes words Show = words ≡ codes "show" ∷ []
Say takes words History = words ≡ codes "history" ∷ []
Say takes words Audit = words ≡ codes "audit" ∷ []
Say takes words (Load n seed m) = SpellsLoad takes words n seed m
Say takes words (Check n seed) = SpellsCheck words n seed
Say takes words Compact = words ≡ codes "compact" ∷ []
Say takes words Upgrade = words ≡ codes "upgrade" ∷ []
Say takes words Migrate = words ≡ codes "migrate" ∷ []
