-- Words say at most one command: a command is read back from its words.
use Rattle.std.proofs.Common.{◌≡◌, ◌≢◌, ℕ, ◌<◌, ◌≤◌, ◌^◌, Bool, true, false, List, [], ◌∷◌, ◌++◌, length, map, get_or, Option, Some, None, refl, sym, ap, subst, ◌∙◌, arith, decimal, append_assoc}
use Rattle.std.proofs.lemmas.List.{append-nil}
use Rattle.std.specs.Prelude.{codes, if◌then◌else◌, ◌==◌}
use Rattle.std.specs.List.{AllByRecursion}
use Rattle.std.specs.Str.Parse.{AllDigits, digits_value}
use Rattle.std.proofs.lemmas.Bool.Decides.{nat_tests}
use Rattle.std.proofs.lemmas.Fmt.{decimal_is_IsNumeral}
use Rattle.std.proofs.lemmas.Str.Parse.{digit_from_value}
use Rattle.promise_spec.specs.Words.{Choice, Width, Turns, Workers, Form, Apart, Joined, GivenOption, Manner, Command, Init, Run, Show, History, Audit, Load, Check, Compact, Upgrade, Migrate, Say, SpellsRun, SpellsLoad, SpellsCheck, choice_name, value_text, list_text, words_in, words_of_all, manner_of, IsWithin, IsNoTurns, AreOptions}
use Rattle.promise_spec.proofs.Lists.{tail_of, none_is, parts_of}

-- ---- what a word says

-- the word is an option's, and no number
abbrev is_option : List ℕ → Bool
is_option [] = false
is_option (b ∷ bs) = b == 45

-- it has an equals sign
abbrev has_sign : List ℕ → Bool
has_sign [] = false
has_sign (b ∷ bs) = if b == 61 then true else has_sign bs

abbrev before_sign : List ℕ → List ℕ
before_sign [] = []
before_sign (b ∷ bs) = if b == 61 then [] else b ∷ before_sign bs

abbrev after_sign : List ℕ → List ℕ
after_sign [] = []
after_sign (b ∷ bs) = if b == 61 then bs else after_sign bs

-- a byte more in the first piece
abbrev onto : ℕ → List (List ℕ) → List (List ℕ)
onto b [] = (b ∷ []) ∷ []
onto b (piece ∷ more) = (b ∷ piece) ∷ more

-- what stands between commas
abbrev pieces : List ℕ → List (List ℕ)
pieces [] = [] ∷ []
pieces (b ∷ bs) = if b == 44 then [] ∷ pieces bs else onto b (pieces bs)

-- an option by the fourth byte of its name
abbrev choice_by : ℕ → List ℕ → Choice
choice_by letter value =
    if letter == 105 then Width (digits_value 10 value)
    else (if letter == 117 then Turns (map (digits_value 10) (pieces value)) else Workers (digits_value 10 value))

abbrev given_by : Form → List ℕ → List ℕ → GivenOption
given_by form name value = record { what = choice_by (get_or name 3 0) value; form = form }

-- the options among the words, where a name may be waiting for its value
abbrev options_in : Option (List ℕ) → List (List ℕ) → List GivenOption
options_in waiting [] = []
options_in None (word ∷ words) =
    if is_option word then (if has_sign word then given_by Joined (before_sign word) (after_sign word) ∷ options_in None words else options_in (Some word) words)
    else options_in None words
options_in (Some name) (word ∷ words) = given_by Apart name word ∷ options_in None words

-- and the numbers
abbrev numbers_in : Option (List ℕ) → List (List ℕ) → List ℕ
numbers_in waiting [] = []
numbers_in None (word ∷ words) =
    if is_option word then (if has_sign word then numbers_in None words else numbers_in (Some word) words)
    else digits_value 10 word ∷ numbers_in None words
numbers_in (Some name) (word ∷ words) = numbers_in None words

-- a command by the first two bytes of its first word
abbrev command_by : ℕ → ℕ → List (List ℕ) → Command
command_by letter second words =
    if letter == 105 then Init
    else (if letter == 114 then Run (manner_of (options_in None words))
    else (if letter == 115 then Show
    else (if letter == 104 then History
    else (if letter == 97 then Audit
    else (if letter == 99 then (if second == 111 then Compact else Check (get_or (numbers_in None words) 0 0) (get_or (numbers_in None words) 1 0))
    else (if letter == 117 then Upgrade
    else (if letter == 109 then Migrate
    else Load (get_or (numbers_in None words) 0 0) (get_or (numbers_in None words) 1 0) (manner_of (options_in None words)))))))))

abbrev command_in : List (List ℕ) → Command
command_in [] = Init
command_in (word ∷ words) = command_by (get_or word 0 0) (get_or word 1 0) words

-- ---- numbers are read back

eqb-ne : (x y : ℕ) → x ≢ y → (x == y) ≡ false
eqb-ne x y differ = grind (arith, nat_tests)

-- digits are no comma
no_commas : (bs : List ℕ) → AllDigits 10 bs → AllByRecursion (λ (b : ℕ). b ≢ 44) bs
no_commas [] all = tt
no_commas (b ∷ bs) all = (omega (arith, digit_from_value b all.0), no_commas bs all.1)

-- and no option's first byte
no_option : (bs : List ℕ) → AllDigits 10 bs → is_option bs ≡ false
no_option [] all = refl
no_option (b ∷ bs) all = eqb-ne b 45 (omega (arith, digit_from_value b all.0))

digits_in : (n : ℕ) → n < 2 ^ 64 → AllDigits 10 (decimal n)
digits_in n small = (decimal_is_IsNumeral n small).0.1

number_back : (n : ℕ) → n < 2 ^ 64 → digits_value 10 (decimal n) ≡ n
number_back n small = (decimal_is_IsNumeral n small).1

-- a text without a comma is one piece
one_piece : (bs : List ℕ) → AllByRecursion (λ (b : ℕ). b ≢ 44) bs → pieces bs ≡ bs ∷ []
one_piece [] none = refl
one_piece (b ∷ bs) none = rw (eqb-ne b 44 none.0) (ap (onto b) (one_piece bs none.1))

-- and before a comma it's the first piece
first_piece : (bs more : List ℕ) → AllByRecursion (λ (b : ℕ). b ≢ 44) bs → pieces (bs ++ (44 ∷ more)) ≡ bs ∷ pieces more
first_piece [] more none = refl
first_piece (b ∷ bs) more none = rw (eqb-ne b 44 none.0) (ap (onto b) (first_piece bs more none.1))

abbrev AreSmall : List ℕ → Type 0
AreSmall picks = AllByRecursion (λ (n : ℕ). n < 2 ^ 32) picks

-- a list of numbers is read back
list_back : (picks : List ℕ) → 1 ≤ length picks → AreSmall picks → map (digits_value 10) (pieces (list_text picks)) ≡ picks
list_back [] some small = absurd (omega arith)
list_back (n ∷ []) some small =
    let below : n < 2 ^ 64 = omega (arith, small.0) in
    ap (map (digits_value 10)) (one_piece (decimal n) (no_commas (decimal n) (digits_in n below))) ∙ ap (λ (m : ℕ). m ∷ []) (number_back n below)
list_back (n ∷ m ∷ more) some small =
    let below : n < 2 ^ 64 = omega (arith, small.0) in
    let rest : map (digits_value 10) (pieces (list_text (m ∷ more))) ≡ m ∷ more = list_back (m ∷ more) (omega arith) small.1 in
    ap (map (digits_value 10)) (first_piece (decimal n) (list_text (m ∷ more)) (no_commas (decimal n) (digits_in n below)))
    ∙ (λ i. number_back n below i ∷ rest i)

-- ---- options are read back

-- an option's value
choice_back : (what : Choice) → IsWithin what → choice_by (get_or (choice_name what) 3 0) (value_text what) ≡ what
choice_back (Width n) within = ap Width (number_back n (omega (arith, within.1)))
choice_back (Turns picks) within = ap Turns (list_back picks within.0 within.2)
choice_back (Workers n) within = ap Workers (number_back n (omega (arith, within.1)))

-- an option's words, apart from how its value is read
option_words : (what : Choice) (form : Form) (value : List ℕ) (a : List (List ℕ)) → options_in None (words_in form (choice_name what) value ++ a) ≡ given_by form (choice_name what) value ∷ options_in None a
option_words (Width n) Apart value a = refl
option_words (Width n) Joined value a = refl
option_words (Turns picks) Apart value a = refl
option_words (Turns picks) Joined value a = refl
option_words (Workers n) Apart value a = refl
option_words (Workers n) Joined value a = refl

-- they have no number
number_words : (what : Choice) (form : Form) (value : List ℕ) (a : List (List ℕ)) → numbers_in None (words_in form (choice_name what) value ++ a) ≡ numbers_in None a
number_words (Width n) Apart value a = refl
number_words (Width n) Joined value a = refl
number_words (Turns picks) Apart value a = refl
number_words (Turns picks) Joined value a = refl
number_words (Workers n) Apart value a = refl
number_words (Workers n) Joined value a = refl

abbrev AreWithin : List GivenOption → Type 0
AreWithin options = AllByRecursion (λ (g : GivenOption). IsWithin g.what) options

-- the words of options before others
words_first : (g : GivenOption) (options : List GivenOption) (a : List (List ℕ)) → words_of_all (g ∷ options) ++ a ≡ words_in g.form (choice_name g.what) (value_text g.what) ++ (words_of_all options ++ a)
words_first g options a = append_assoc (words_in g.form (choice_name g.what) (value_text g.what)) (words_of_all options) a

options_back : (options : List GivenOption) (a : List (List ℕ)) → AreWithin options → options_in None (words_of_all options ++ a) ≡ options ++ options_in None a
options_back [] a within = refl
options_back (g ∷ options) a within =
    let here : given_by g.form (choice_name g.what) (value_text g.what) ≡ g = ap (λ (what : Choice). let h : GivenOption = record { what = what; form = g.form } in h) (choice_back g.what within.0) in
    let more : options_in None (words_of_all options ++ a) ≡ options ++ options_in None a = options_back options a within.1 in
    ap (options_in None) (words_first g options a) ∙ option_words g.what g.form (value_text g.what) (words_of_all options ++ a) ∙ (λ i. here i ∷ more i)

numbers_back : (options : List GivenOption) (a : List (List ℕ)) → numbers_in None (words_of_all options ++ a) ≡ numbers_in None a
numbers_back [] a = refl
numbers_back (g ∷ options) a =
    ap (numbers_in None) (words_first g options a) ∙ number_words g.what g.form (value_text g.what) (words_of_all options ++ a) ∙ numbers_back options a

-- a number among them
options_past : (n : ℕ) (a : List (List ℕ)) → n < 2 ^ 64 → options_in None (decimal n ∷ a) ≡ options_in None a
options_past n a small = rw (no_option (decimal n) (digits_in n small)) refl

numbers_at : (n : ℕ) (a : List (List ℕ)) → n < 2 ^ 64 → numbers_in None (decimal n ∷ a) ≡ n ∷ numbers_in None a
numbers_at n a small = rw (no_option (decimal n) (digits_in n small)) (ap (λ (m : ℕ). m ∷ numbers_in None a) (number_back n small))

-- options alone
options_alone : (options : List GivenOption) → AreWithin options → options_in None (words_of_all options) ≡ options
options_alone options within =
    ap (options_in None) (sym (append-nil (words_of_all options))) ∙ options_back options [] within ∙ append-nil options

numbers_alone : (options : List GivenOption) → numbers_in None (words_of_all options) ≡ []
numbers_alone options = ap (numbers_in None) (sym (append-nil (words_of_all options))) ∙ numbers_back options []

-- ---- commands are read back

-- the words of a load behind its first
abbrev load_words : List GivenOption → ℕ → List GivenOption → ℕ → List GivenOption → List (List ℕ)
load_words before n between seed behind = words_of_all before ++ (decimal n ∷ (words_of_all between ++ (decimal seed ∷ words_of_all behind)))

load_options : (before between behind : List GivenOption) (n seed : ℕ) → n < 2 ^ 64 → seed < 2 ^ 64 → AreWithin (before ++ (between ++ behind))
    → options_in None (load_words before n between seed behind) ≡ before ++ (between ++ behind)
load_options before between behind n seed small_n small_seed within =
    let all = parts_of (λ (g : GivenOption). IsWithin g.what) before (between ++ behind) within in
    let later = parts_of (λ (g : GivenOption). IsWithin g.what) between behind all.1 in
    let third : options_in None (decimal seed ∷ words_of_all behind) ≡ behind = options_past seed (words_of_all behind) small_seed ∙ options_alone behind later.1 in
    let second : options_in None (words_of_all between ++ (decimal seed ∷ words_of_all behind)) ≡ between ++ behind =
    options_back between (decimal seed ∷ words_of_all behind) later.0 ∙ ap (λ (l : List GivenOption). between ++ l) third in
    let first : options_in None (decimal n ∷ (words_of_all between ++ (decimal seed ∷ words_of_all behind))) ≡ between ++ behind =
    options_past n (words_of_all between ++ (decimal seed ∷ words_of_all behind)) small_n ∙ second in
    options_back before (decimal n ∷ (words_of_all between ++ (decimal seed ∷ words_of_all behind))) all.0 ∙ ap (λ (l : List GivenOption). before ++ l) first

load_numbers : (before between behind : List GivenOption) (n seed : ℕ) → n < 2 ^ 64 → seed < 2 ^ 64 → numbers_in None (load_words before n between seed behind) ≡ n ∷ seed ∷ []
load_numbers before between behind n seed small_n small_seed =
    let third : numbers_in None (decimal seed ∷ words_of_all behind) ≡ seed ∷ [] = numbers_at seed (words_of_all behind) small_seed ∙ ap (λ (l : List ℕ). seed ∷ l) (numbers_alone behind) in
    let second : numbers_in None (words_of_all between ++ (decimal seed ∷ words_of_all behind)) ≡ seed ∷ [] =
    numbers_back between (decimal seed ∷ words_of_all behind) ∙ third in
    numbers_back before (decimal n ∷ (words_of_all between ++ (decimal seed ∷ words_of_all behind)))
    ∙ numbers_at n (words_of_all between ++ (decimal seed ∷ words_of_all behind)) small_n
    ∙ ap (λ (l : List ℕ). n ∷ l) second

-- the words of a check behind its first have two numbers and no option
check_numbers : (n seed : ℕ) → n < 2 ^ 64 → seed < 2 ^ 64 → numbers_in None (decimal n ∷ (decimal seed ∷ [])) ≡ n ∷ seed ∷ []
check_numbers n seed small_n small_seed = numbers_at n (decimal seed ∷ []) small_n ∙ ap (λ (l : List ℕ). n ∷ l) (numbers_at seed [] small_seed)

check_options : (n seed : ℕ) → n < 2 ^ 64 → seed < 2 ^ 64 → options_in None (decimal n ∷ (decimal seed ∷ [])) ≡ []
check_options n seed small_n small_seed = options_past n (decimal seed ∷ []) small_n ∙ options_past seed [] small_seed

-- a command from what is read
abbrev load_from : List ℕ → List GivenOption → Command
load_from numbers options = Load (get_or numbers 0 0) (get_or numbers 1 0) (manner_of options)

module _ (takes : GivenOption → Bool) (words : List (List ℕ)) where
  run_back : (m : Manner) → SpellsRun takes words m → command_in words ≡ Run m
  run_back m k = ap command_in k.words_are ∙ ap Run (ap manner_of (options_alone k.options k.are.within) ∙ sym k.manner)

  load_back : (n seed : ℕ) (m : Manner) → SpellsLoad takes words n seed m → command_in words ≡ Load n seed m
  load_back n seed m k =
      let small : n < 2 ^ 64 = omega (arith, k.many.1) in
      let numbers : numbers_in None (load_words k.before n k.between seed k.behind) ≡ n ∷ seed ∷ [] = load_numbers k.before k.between k.behind n seed small k.small in
      let options : options_in None (load_words k.before n k.between seed k.behind) ≡ k.before ++ (k.between ++ k.behind) = load_options k.before k.between k.behind n seed small k.small k.are.within in
      ap command_in k.words_are ∙ (λ i. load_from (numbers i) (options i)) ∙ ap (Load n seed) (sym k.manner)

  check_back : (n seed : ℕ) → SpellsCheck words n seed → command_in words ≡ Check n seed
  check_back n seed k = ap command_in k.words_are ∙ ap (λ (l : List ℕ). Check (get_or l 0 0) (get_or l 1 0)) (check_numbers n seed (omega (arith, k.few)) k.small)

  -- a command is read back from its words
  command_back : (c : Command) → Say takes words c → command_in words ≡ c
  command_back Init k = ap command_in k
  command_back (Run m) k = run_back m k
  command_back Show k = ap command_in k
  command_back History k = ap command_in k
  command_back Audit k = ap command_in k
  command_back (Load n seed m) k = load_back n seed m k
  command_back (Check n seed) k = check_back n seed k
  command_back Compact k = ap command_in k
  command_back Upgrade k = ap command_in k
  command_back Migrate k = ap command_in k

-- ---- words that say nothing

-- the words of a run say the options that are read in them, and nothing where these may not stand, or are other words
pub no_run : (rest : List (List ℕ)) (takes : GivenOption → Bool) → (AreOptions takes (options_in None rest) → rest ≡ words_of_all (options_in None rest) → ⊥)
    → (c : Command) → Say takes (codes "run" ∷ rest) c → ⊥
no_run rest takes refused Init k = absurd (cc (command_back takes (codes "run" ∷ rest) Init k))
no_run rest takes refused (Run m) k =
    let words : rest ≡ words_of_all k.options = tail_of (codes "run") (codes "run") rest (words_of_all k.options) k.words_are in
    let options : k.options ≡ options_in None rest = sym (ap (options_in None) words ∙ options_alone k.options k.are.within) in
    refused (subst (AreOptions takes) options k.are) (words ∙ ap words_of_all options)
no_run rest takes refused Show k = absurd (cc (command_back takes (codes "run" ∷ rest) Show k))
no_run rest takes refused History k = absurd (cc (command_back takes (codes "run" ∷ rest) History k))
no_run rest takes refused Audit k = absurd (cc (command_back takes (codes "run" ∷ rest) Audit k))
no_run rest takes refused (Load n seed m) k = absurd (cc (command_back takes (codes "run" ∷ rest) (Load n seed m) k))
no_run rest takes refused (Check n seed) k = absurd (cc (command_back takes (codes "run" ∷ rest) (Check n seed) k))
no_run rest takes refused Compact k = absurd (cc (command_back takes (codes "run" ∷ rest) Compact k))
no_run rest takes refused Upgrade k = absurd (cc (command_back takes (codes "run" ∷ rest) Upgrade k))
no_run rest takes refused Migrate k = absurd (cc (command_back takes (codes "run" ∷ rest) Migrate k))

-- the words of a load say the two numbers and the options that are read in them, and nothing where these may not stand
pub no_load : (rest : List (List ℕ)) (takes : GivenOption → Bool)
    → ((n seed : ℕ) → numbers_in None rest ≡ n ∷ seed ∷ [] → (1 ≤ n) × (n ≤ 100000) → seed < 2 ^ 64
    → AreOptions takes (options_in None rest) → AllByRecursion (λ (g : GivenOption). IsNoTurns g.what) (options_in None rest) → ⊥)
    → (c : Command) → Say takes (codes "load" ∷ rest) c → ⊥
no_load rest takes refused Init k = absurd (cc (command_back takes (codes "load" ∷ rest) Init k))
no_load rest takes refused (Run m) k = absurd (cc (command_back takes (codes "load" ∷ rest) (Run m) k))
no_load rest takes refused Show k = absurd (cc (command_back takes (codes "load" ∷ rest) Show k))
no_load rest takes refused History k = absurd (cc (command_back takes (codes "load" ∷ rest) History k))
no_load rest takes refused Audit k = absurd (cc (command_back takes (codes "load" ∷ rest) Audit k))
no_load rest takes refused (Load n seed m) k =
    let small : n < 2 ^ 64 = omega (arith, k.many.1) in
    let said : List (List ℕ) = load_words k.before n k.between seed k.behind in
    let words : rest ≡ said = tail_of (codes "load") (codes "load") rest said k.words_are in
    let numbers : numbers_in None said ≡ n ∷ seed ∷ [] = load_numbers k.before k.between k.behind n seed small k.small in
    let options : options_in None said ≡ k.before ++ (k.between ++ k.behind) = load_options k.before k.between k.behind n seed small k.small k.are.within in
    let read : k.before ++ (k.between ++ k.behind) ≡ options_in None rest = sym (ap (options_in None) words ∙ options) in
    refused n seed (ap (numbers_in None) words ∙ numbers) k.many k.small
    (subst (AreOptions takes) read k.are) (subst (λ (l : List GivenOption). AllByRecursion (λ (g : GivenOption). IsNoTurns g.what) l) read k.no_turns)
no_load rest takes refused (Check n seed) k = absurd (cc (command_back takes (codes "load" ∷ rest) (Check n seed) k))
no_load rest takes refused Compact k = absurd (cc (command_back takes (codes "load" ∷ rest) Compact k))
no_load rest takes refused Upgrade k = absurd (cc (command_back takes (codes "load" ∷ rest) Upgrade k))
no_load rest takes refused Migrate k = absurd (cc (command_back takes (codes "load" ∷ rest) Migrate k))

-- the words of a check say the two numbers that are read in them, and nothing where an option is
pub no_check : (rest : List (List ℕ)) (takes : GivenOption → Bool) → ((n seed : ℕ) → numbers_in None rest ≡ n ∷ seed ∷ [] → options_in None rest ≡ [] → n ≤ 10000 → seed < 2 ^ 64 → ⊥)
    → (c : Command) → Say takes (codes "check" ∷ rest) c → ⊥
no_check rest takes refused Init k = absurd (cc (command_back takes (codes "check" ∷ rest) Init k))
no_check rest takes refused (Run m) k = absurd (cc (command_back takes (codes "check" ∷ rest) (Run m) k))
no_check rest takes refused Show k = absurd (cc (command_back takes (codes "check" ∷ rest) Show k))
no_check rest takes refused History k = absurd (cc (command_back takes (codes "check" ∷ rest) History k))
no_check rest takes refused Audit k = absurd (cc (command_back takes (codes "check" ∷ rest) Audit k))
no_check rest takes refused (Load n seed m) k = absurd (cc (command_back takes (codes "check" ∷ rest) (Load n seed m) k))
no_check rest takes refused (Check n seed) k =
    let small : n < 2 ^ 64 = omega (arith, k.few) in
    let words : rest ≡ decimal n ∷ (decimal seed ∷ []) = tail_of (codes "check") (codes "check") rest (decimal n ∷ (decimal seed ∷ [])) k.words_are in
    refused n seed (ap (numbers_in None) words ∙ check_numbers n seed small k.small) (ap (options_in None) words ∙ check_options n seed small k.small) k.few k.small
no_check rest takes refused Compact k = absurd (cc (command_back takes (codes "check" ∷ rest) Compact k))
no_check rest takes refused Upgrade k = absurd (cc (command_back takes (codes "check" ∷ rest) Upgrade k))
no_check rest takes refused Migrate k = absurd (cc (command_back takes (codes "check" ∷ rest) Migrate k))

-- the word of a compaction stands alone
pub no_compact : (word : List ℕ) (rest : List (List ℕ)) (takes : GivenOption → Bool) (c : Command) → Say takes (codes "compact" ∷ word ∷ rest) c → ⊥
no_compact word rest takes Init k = absurd (cc (command_back takes (codes "compact" ∷ word ∷ rest) Init k))
no_compact word rest takes (Run m) k = absurd (cc (command_back takes (codes "compact" ∷ word ∷ rest) (Run m) k))
no_compact word rest takes Show k = absurd (cc (command_back takes (codes "compact" ∷ word ∷ rest) Show k))
no_compact word rest takes History k = absurd (cc (command_back takes (codes "compact" ∷ word ∷ rest) History k))
no_compact word rest takes Audit k = absurd (cc (command_back takes (codes "compact" ∷ word ∷ rest) Audit k))
no_compact word rest takes (Load n seed m) k = absurd (cc (command_back takes (codes "compact" ∷ word ∷ rest) (Load n seed m) k))
no_compact word rest takes (Check n seed) k = absurd (cc (command_back takes (codes "compact" ∷ word ∷ rest) (Check n seed) k))
no_compact word rest takes Compact k = absurd (none_is word rest (tail_of (codes "compact") (codes "compact") (word ∷ rest) [] k))
no_compact word rest takes Upgrade k = absurd (cc (command_back takes (codes "compact" ∷ word ∷ rest) Upgrade k))
no_compact word rest takes Migrate k = absurd (cc (command_back takes (codes "compact" ∷ word ∷ rest) Migrate k))

-- the word of an upgrade stands alone
pub no_upgrade : (word : List ℕ) (rest : List (List ℕ)) (takes : GivenOption → Bool) (c : Command) → Say takes (codes "upgrade" ∷ word ∷ rest) c → ⊥
no_upgrade word rest takes Init k = absurd (cc (command_back takes (codes "upgrade" ∷ word ∷ rest) Init k))
no_upgrade word rest takes (Run m) k = absurd (cc (command_back takes (codes "upgrade" ∷ word ∷ rest) (Run m) k))
no_upgrade word rest takes Show k = absurd (cc (command_back takes (codes "upgrade" ∷ word ∷ rest) Show k))
no_upgrade word rest takes History k = absurd (cc (command_back takes (codes "upgrade" ∷ word ∷ rest) History k))
no_upgrade word rest takes Audit k = absurd (cc (command_back takes (codes "upgrade" ∷ word ∷ rest) Audit k))
no_upgrade word rest takes (Load n seed m) k = absurd (cc (command_back takes (codes "upgrade" ∷ word ∷ rest) (Load n seed m) k))
no_upgrade word rest takes (Check n seed) k = absurd (cc (command_back takes (codes "upgrade" ∷ word ∷ rest) (Check n seed) k))
no_upgrade word rest takes Compact k = absurd (cc (command_back takes (codes "upgrade" ∷ word ∷ rest) Compact k))
no_upgrade word rest takes Upgrade k = absurd (none_is word rest (tail_of (codes "upgrade") (codes "upgrade") (word ∷ rest) [] k))
no_upgrade word rest takes Migrate k = absurd (cc (command_back takes (codes "upgrade" ∷ word ∷ rest) Migrate k))

-- the word of a migration stands alone
pub no_migrate : (word : List ℕ) (rest : List (List ℕ)) (takes : GivenOption → Bool) (c : Command) → Say takes (codes "migrate" ∷ word ∷ rest) c → ⊥
no_migrate word rest takes Init k = absurd (cc (command_back takes (codes "migrate" ∷ word ∷ rest) Init k))
no_migrate word rest takes (Run m) k = absurd (cc (command_back takes (codes "migrate" ∷ word ∷ rest) (Run m) k))
no_migrate word rest takes Show k = absurd (cc (command_back takes (codes "migrate" ∷ word ∷ rest) Show k))
no_migrate word rest takes History k = absurd (cc (command_back takes (codes "migrate" ∷ word ∷ rest) History k))
no_migrate word rest takes Audit k = absurd (cc (command_back takes (codes "migrate" ∷ word ∷ rest) Audit k))
no_migrate word rest takes (Load n seed m) k = absurd (cc (command_back takes (codes "migrate" ∷ word ∷ rest) (Load n seed m) k))
no_migrate word rest takes (Check n seed) k = absurd (cc (command_back takes (codes "migrate" ∷ word ∷ rest) (Check n seed) k))
no_migrate word rest takes Compact k = absurd (cc (command_back takes (codes "migrate" ∷ word ∷ rest) Compact k))
no_migrate word rest takes Upgrade k = absurd (cc (command_back takes (codes "migrate" ∷ word ∷ rest) Upgrade k))
no_migrate word rest takes Migrate k = absurd (none_is word rest (tail_of (codes "migrate") (codes "migrate") (word ∷ rest) [] k))

-- words say at most one command
pub one_command : (takes : GivenOption → Bool) (words : List (List ℕ)) (c d : Command) → Say takes words c → Say takes words d → c ≡ d
one_command takes words c d said_c said_d = sym (command_back takes words c said_c) ∙ command_back takes words d said_d
