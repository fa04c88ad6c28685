-- Words that say a command, and what was read of them.
use Rattle.std.proofs.Common.{◌≡◌, ◌∙◌, ℕ, ◌<◌, ◌^◌, Bool, true, false, List, [], ◌∷◌, ◌++◌, length, drop, None, refl, sym, ap, subst, true≢false, codes, arith, decimal}
use Rattle.std.specs.Prelude.{Result, Ok, Err, IsErrAnd, String, string_bytes}
use Rattle.std.specs.List.{AllByRecursion}
use Rattle.std.specs.declared.alloc.Global.{Global}
use Rattle.std.proofs.lemmas.Fmt.{decimal_injective}
use Rattle.std.proofs.lemmas.Slice.Eq.{bytes_eq-Decides}
use Rattle.promise_spec.specs.Words.{Choice, Width, Turns, Workers, GivenOption, manner_of, IsNoTurns, AreOptions, Command, Init, Run, Show, History, Audit, Load, Check, Say, SpellsRun, SpellsLoad, SpellsCheck, Compact, Upgrade, Migrate}
use Rattle.command_words.specs.Parts.{WidthName, TurnsName, WorkersName, WordPart, OptionPart, NumberPart, option_values, number_words}
use Rattle.command_words.specs.CutParts.{texts_of, HaveParts}
use Rattle.command_words.specs.Options.{Chosen, Ask, AreLoadNumbers, AreCheckNumbers, is_first, chosen_manner, run_chosen, load_chosen, has_option}
use Rattle.command_words.specs.declared.words.RunOptions.{RunOptions}
use Rattle.command_words.specs.declared.words.LoadOptions.{LoadOptions}
use Rattle.command_words.specs.declared.words.Words.TheVariants as words
use Rattle.command_words.proofs.CutFacts.{same_parts}
use Rattle.command_words.proofs.WordParts.{parts_spell}
use Rattle.command_words.proofs.ChosenOptions.{options_of, no_number, two_numbers, agrees, are_options, right_manner}
use Rattle.command_words.proofs.SpelledOptions.{chosen_in, run_asks, load_asks}

abbrev Texts : Type 0
Texts = List (List ℕ)

-- ---- faults

-- the fault that is handed on is the one that was met
pub same_fault : {T U E : Type 0} (r : Result T E) (met told : E) → IsErrAnd r (λ (y : E). y ≡ met) → r ≡ Err told → ◌≡◌ {A = Result U E} (Err met) (Err told)
same_fault (Ok x) met told is e = absurd is
same_fault (Err y) met told is e = let same : y ≡ told = cc e in ap Err (sym is ∙ same)

-- ---- numbers

-- a text spells one number
pub one_number : (text : List ℕ) (n m : ℕ) → n < 2 ^ 64 → m < 2 ^ 64 → text ≡ decimal n → text ≡ decimal m → n ≡ m
one_number text n m small_n small_m e f = decimal_injective n m small_n small_m (sym e ∙ f)

-- the words that are no option are those of any other parts
pub same_numbers : (words : Texts) (parts others : List WordPart) (a b x y : List ℕ) → HaveParts words parts → HaveParts words others → number_words parts ≡ a ∷ b ∷ [] → number_words others ≡ x ∷ y ∷ []
    → (a ≡ x) × (b ≡ y)
same_numbers words parts others a b x y h k e f =
    let same : a ∷ b ∷ [] ≡ x ∷ y ∷ [] = sym e ∙ ap number_words (same_parts words parts others h k) ∙ f in
    (cc same, cc same)

-- ---- the first word

pub first_word : (name : List ℕ) (texts : Texts) → is_first name texts ≡ true → texts ≡ name ∷ drop 1 texts
first_word name [] e = absurd (true≢false (sym e))
first_word name (word ∷ words) e = ap (λ (w : List ℕ). w ∷ words) ((bytes_eq-Decides word name).0 e)

pub only_word : (name : List ℕ) (words : List (String Global)) → length words ≡ 1 → is_first name (texts_of words) ≡ true → texts_of words ≡ name ∷ []
only_word name [] one e = absurd (omega (arith, one))
only_word name (word ∷ []) one e = first_word name (string_bytes word ∷ []) e
only_word name (word ∷ other ∷ words) one e = absurd (omega (arith, one))

-- the words of one command are not those of another
other_first : (name : List ℕ) (texts words : Texts) → is_first name texts ≡ true → texts ≡ words → is_first name words ≡ false → ⊥
other_first name texts words e k differ = true≢false (sym e ∙ ap (is_first name) k ∙ differ)

-- ---- what was read is said

pub run_said : (texts : Texts) (o : RunOptions) → is_first (codes "run") texts ≡ true → Ask (drop 1 texts) (run_chosen o) []
    → SpellsRun (has_option (words.Run o)) texts (chosen_manner (run_chosen o))
run_said texts o first a =
    let c = run_chosen o in
    let rest = parts_spell (drop 1 texts) a.parts a.have ∙ no_number c a.parts (agrees a.parts c a.spelled a.may) a.numbers_are in
    record {
      options = options_of c a.parts;
      are = are_options a.parts c a.spelled a.may;
      words_are = first_word (codes "run") texts first ∙ ap (λ (l : Texts). codes "run" ∷ l) rest;
      manner = right_manner a.parts c a.spelled a.may;
    }

no_turns : (c : Chosen) (parts : List WordPart) → option_values TurnsName parts ≡ [] → AllByRecursion (λ (g : GivenOption). IsNoTurns g.what) (options_of c parts)
no_turns c [] none = tt
no_turns c (NumberPart word ∷ parts) none = no_turns c parts none
no_turns c (OptionPart WidthName form value ∷ parts) none = (tt, no_turns c parts none)
no_turns c (OptionPart TurnsName form value ∷ parts) none = absurd (cc none)
no_turns c (OptionPart WorkersName form value ∷ parts) none = (tt, no_turns c parts none)

pub load_said : (texts : Texts) (o : LoadOptions) → is_first (codes "load") texts ≡ true → AreLoadNumbers o.transfers o.seed
    → Ask (drop 1 texts) (load_chosen o) (decimal o.transfers ∷ decimal o.seed ∷ []) → SpellsLoad (has_option (words.Load o)) texts o.transfers o.seed (chosen_manner (load_chosen o))
load_said texts o first numbers a =
    let c = load_chosen o in
    let two = two_numbers c (decimal o.transfers) (decimal o.seed) a.parts (agrees a.parts c a.spelled a.may) a.numbers_are in
    let rest = parts_spell (drop 1 texts) a.parts a.have ∙ two.3 in
    record {
      before = two.0;
      between = two.1;
      behind = two.2;
      are = subst (λ (l : List GivenOption). AreOptions (has_option (words.Load o)) l) two.4 (are_options a.parts c a.spelled a.may);
      no_turns = subst (λ (l : List GivenOption). AllByRecursion (λ (g : GivenOption). IsNoTurns g.what) l) two.4 (no_turns c a.parts a.spelled.turns);
      many = (numbers.0, numbers.1);
      small = numbers.2;
      words_are = first_word (codes "load") texts first ∙ ap (λ (l : Texts). codes "load" ∷ l) rest;
      manner = right_manner a.parts c a.spelled a.may ∙ ap manner_of two.4;
    }

pub check_said : (texts : Texts) (starts seed : ℕ) → is_first (codes "check") texts ≡ true → AreCheckNumbers starts seed
    → drop 1 texts ≡ decimal starts ∷ decimal seed ∷ [] → SpellsCheck texts starts seed
check_said texts starts seed first numbers e = record {
  few = numbers.0;
  small = numbers.1;
  words_are = first_word (codes "check") texts first ∙ ap (λ (l : Texts). codes "check" ∷ l) e;
}

-- ---- what was refused isn't

pub run_unsaid : (texts : Texts) → is_first (codes "run") texts ≡ true → ((chosen : Chosen) → Ask (drop 1 texts) chosen [] → ⊥)
    → (takes : GivenOption → Bool) (command : Command) → Say takes texts command → ⊥
run_unsaid texts first none takes Init k = other_first (codes "run") texts (codes "init" ∷ []) first k refl
run_unsaid texts first none takes (Run m) k = none (chosen_in k.options) (run_asks takes k.options (drop 1 texts) k.are (ap (λ (l : Texts). drop 1 l) k.words_are))
run_unsaid texts first none takes Show k = other_first (codes "run") texts (codes "show" ∷ []) first k refl
run_unsaid texts first none takes History k = other_first (codes "run") texts (codes "history" ∷ []) first k refl
run_unsaid texts first none takes Audit k = other_first (codes "run") texts (codes "audit" ∷ []) first k refl
run_unsaid texts first none takes (Load n seed m) k = other_first (codes "run") texts _ first k.words_are refl
run_unsaid texts first none takes (Check n seed) k = other_first (codes "run") texts _ first k.words_are refl
run_unsaid texts first none takes Compact k = other_first (codes "run") texts (codes "compact" ∷ []) first k refl
run_unsaid texts first none takes Upgrade k = other_first (codes "run") texts (codes "upgrade" ∷ []) first k refl
run_unsaid texts first none takes Migrate k = other_first (codes "run") texts (codes "migrate" ∷ []) first k refl

none_chosen : (options : List GivenOption) → AllByRecursion (λ (g : GivenOption). IsNoTurns g.what) options → (chosen_in options).turns ≡ None
none_chosen [] none = refl
none_chosen (g ∷ options) none = go g.what none.0 (none_chosen options none.1)
  where
    go : (what : Choice) → IsNoTurns what → (chosen_in options).turns ≡ None → (chosen_in (record { what = what; form = g.form } ∷ options)).turns ≡ None
    go (Width n) is later = later
    go (Turns picks) is later = absurd is
    go (Workers n) is later = later

pub load_unsaid : (texts : Texts) → is_first (codes "load") texts ≡ true
    → ((chosen : Chosen) (n seed : ℕ) → AreLoadNumbers n seed → chosen.turns ≡ None → Ask (drop 1 texts) chosen (decimal n ∷ decimal seed ∷ []) → ⊥)
    → (takes : GivenOption → Bool) (command : Command) → Say takes texts command → ⊥
load_unsaid texts first none takes Init k = other_first (codes "load") texts (codes "init" ∷ []) first k refl
load_unsaid texts first none takes (Run m) k = other_first (codes "load") texts _ first k.words_are refl
load_unsaid texts first none takes Show k = other_first (codes "load") texts (codes "show" ∷ []) first k refl
load_unsaid texts first none takes History k = other_first (codes "load") texts (codes "history" ∷ []) first k refl
load_unsaid texts first none takes Audit k = other_first (codes "load") texts (codes "audit" ∷ []) first k refl
load_unsaid texts first none takes (Load n seed m) k =
    none (chosen_in (k.before ++ (k.between ++ k.behind))) n seed (k.many.0, k.many.1, k.small) (none_chosen (k.before ++ (k.between ++ k.behind)) k.no_turns)
    (load_asks takes k.before k.between k.behind n seed (drop 1 texts) k.are (omega (arith, k.many.1)) k.small (ap (λ (l : Texts). drop 1 l) k.words_are))
load_unsaid texts first none takes (Check n seed) k = other_first (codes "load") texts _ first k.words_are refl
load_unsaid texts first none takes Compact k = other_first (codes "load") texts (codes "compact" ∷ []) first k refl
load_unsaid texts first none takes Upgrade k = other_first (codes "load") texts (codes "upgrade" ∷ []) first k refl
load_unsaid texts first none takes Migrate k = other_first (codes "load") texts (codes "migrate" ∷ []) first k refl

pub check_unsaid : (texts : Texts) → is_first (codes "check") texts ≡ true
    → ((starts seed : ℕ) → AreCheckNumbers starts seed → drop 1 texts ≡ decimal starts ∷ decimal seed ∷ [] → ⊥)
    → (takes : GivenOption → Bool) (command : Command) → Say takes texts command → ⊥
check_unsaid texts first none takes Init k = other_first (codes "check") texts (codes "init" ∷ []) first k refl
check_unsaid texts first none takes (Run m) k = other_first (codes "check") texts _ first k.words_are refl
check_unsaid texts first none takes Show k = other_first (codes "check") texts (codes "show" ∷ []) first k refl
check_unsaid texts first none takes History k = other_first (codes "check") texts (codes "history" ∷ []) first k refl
check_unsaid texts first none takes Audit k = other_first (codes "check") texts (codes "audit" ∷ []) first k refl
check_unsaid texts first none takes (Load n seed m) k = other_first (codes "check") texts _ first k.words_are refl
check_unsaid texts first none takes (Check n seed) k = none n seed (k.few, k.small) (ap (λ (l : Texts). drop 1 l) k.words_are)
check_unsaid texts first none takes Compact k = other_first (codes "check") texts (codes "compact" ∷ []) first k refl
check_unsaid texts first none takes Upgrade k = other_first (codes "check") texts (codes "upgrade" ∷ []) first k refl
check_unsaid texts first none takes Migrate k = other_first (codes "check") texts (codes "migrate" ∷ []) first k refl
