-- From options to the parts that spell them.
use Rattle.std.proofs.Common.{◌≡◌, ◌≢◌, ◌∙◌, ℕ, ◌<◌, ◌≤◌, ◌^◌, Bool, true, false, cond, List, [], ◌∷◌, ◌++◌, length, Option, Some, None, refl, sym, ap, subst, true≢false, inl, inr, arith, append_assoc, decimal}
use Rattle.std.specs.Prelude.{◌==◌, ◌||◌, ◌⊎◌, IfSome, is_some}
use Rattle.std.specs.List.{AllByRecursion, list_any}
use Rattle.std.specs.Str.Parse.{AllDigits}
use Rattle.std.proofs.lemmas.List.{append-nil}
use Rattle.std.proofs.lemmas.Bool.Decides.{eqb_tells}
use Rattle.std.proofs.lemmas.Fmt.{decimal_is_IsNumeral}
use Rattle.std.proofs.lemmas.Str.Parse.{digit_from_value}
use Rattle.promise_spec.proofs.Lists.{parts_of}
use Rattle.promise_spec.specs.Words.{Choice, Width, Turns, Workers, Form, Apart, Joined, GivenOption, choice_name, value_text, list_text, words_in, words_of, words_of_all, IsWithin, DifferInName, is_workers, AreOptions}
use Rattle.command_words.specs.Parts.{OptionName, WidthName, TurnsName, WorkersName, dashed_name, WordPart, OptionPart, NumberPart, parts_words, is_same_name, is_stray, option_values, number_words}
use Rattle.command_words.specs.CutParts.{HaveParts, AreFew}
use Rattle.command_words.specs.Options.{Chosen, number_text, picks_text, AreSpelled, MayStand, Ask}
use Rattle.command_words.proofs.WordParts.{IsPlainWord, IsPlainPart, ArePlainParts, have_parts}

abbrev Texts : Type 0
Texts = List (List ℕ)

-- ---- a number's word is plain

first_plain : (b : ℕ) (bs : List ℕ) → b ≢ 45 → IsPlainWord (b ∷ bs)
first_plain b bs differ = elim (eqb_tells b 45) [
  | inl h ↦ absurd (differ h.1)
  | inr h ↦ (rw h.0 refl, go bs h.0)
]
  where
    go : (bs : List ℕ) → (b == 45) ≡ false → is_stray (b ∷ bs) ≡ false
    go [] e = refl
    go (x ∷ []) e = e
    go (x ∷ y ∷ more) e = rw e refl

digits_plain : (ds more : List ℕ) → 0 < length ds → AllDigits 10 ds → IsPlainWord (ds ++ more)
digits_plain [] more some all = absurd (omega (arith, some))
digits_plain (d ∷ ds) more some all = first_plain d (ds ++ more) (λ e. omega (arith, e, digit_from_value d all.0))

pub number_plain : (n : ℕ) → n < 2 ^ 64 → IsPlainWord (decimal n)
number_plain n small =
    let k = (decimal_is_IsNumeral n small).0 in
    subst IsPlainWord (append-nil (decimal n)) (digits_plain (decimal n) [] k.0 k.1)

value_plain : (what : Choice) → IsWithin what → IsPlainWord (value_text what)
value_plain (Width n) within = number_plain n (omega (arith, within.1))
value_plain (Workers n) within = number_plain n (omega (arith, within.1))
value_plain (Turns []) within = absurd (omega (arith, within.0))
value_plain (Turns (n ∷ [])) within = number_plain n (omega (arith, within.2.0))
value_plain (Turns (n ∷ m ∷ more)) within =
    let k = (decimal_is_IsNumeral n (omega (arith, within.2.0))).0 in
    digits_plain (decimal n) (44 ∷ list_text (m ∷ more)) k.0 k.1

-- ---- the parts of options

abbrev option_of : Choice → OptionName
option_of (Width n) = WidthName
option_of (Turns picks) = TurnsName
option_of (Workers n) = WorkersName

abbrev option_parts : List GivenOption → List WordPart
option_parts [] = []
option_parts (g ∷ options) = OptionPart (option_of g.what) g.form (value_text g.what) ∷ option_parts options

named : (what : Choice) → dashed_name (option_of what) ≡ choice_name what
named (Width n) = refl
named (Turns picks) = refl
named (Workers n) = refl

words_before : (options : List GivenOption) (parts : List WordPart) → parts_words (option_parts options ++ parts) ≡ words_of_all options ++ parts_words parts
words_before [] parts = refl
words_before (g ∷ options) parts =
    (λ i. words_in g.form (named g.what i) (value_text g.what) ++ words_before options parts i) ∙ sym (append_assoc (words_of g) (words_of_all options) (parts_words parts))

abbrev AreWithin : List GivenOption → Type 0
AreWithin options = AllByRecursion (λ (g : GivenOption). IsWithin g.what) options

plain_before : (options : List GivenOption) (parts : List WordPart) → AreWithin options → ArePlainParts parts → ArePlainParts (option_parts options ++ parts)
plain_before [] parts within plain = plain
plain_before (g ∷ options) parts within plain = (go g.form, plain_before options parts within.1 plain)
  where
    go : (form : Form) → IsPlainPart (OptionPart (option_of g.what) form (value_text g.what))
    go Apart = value_plain g.what within.0
    go Joined = tt

numbers_before : (options : List GivenOption) (parts : List WordPart) → number_words (option_parts options ++ parts) ≡ number_words parts
numbers_before [] parts = refl
numbers_before (g ∷ options) parts = numbers_before options parts

values_before : (name : OptionName) (options more : List GivenOption) (parts : List WordPart) → option_values name parts ≡ option_values name (option_parts more)
    → option_values name (option_parts options ++ parts) ≡ option_values name (option_parts (options ++ more))
values_before name [] more parts e = e
values_before name (g ∷ options) more parts e = go (is_same_name name (option_of g.what)) (values_before name options more parts e)
  where
    go : (b : Bool) → option_values name (option_parts options ++ parts) ≡ option_values name (option_parts (options ++ more))
        → cond b (value_text g.what ∷ option_values name (option_parts options ++ parts)) (option_values name (option_parts options ++ parts))
        ≡ cond b (value_text g.what ∷ option_values name (option_parts (options ++ more))) (option_values name (option_parts (options ++ more)))
    go true later = ap (λ (l : Texts). value_text g.what ∷ l) later
    go false later = later

-- ---- what options choose

abbrev with_given : Choice → Chosen → Chosen
with_given (Width n) c = record c { width = Some n }
with_given (Turns picks) c = record c { turns = Some picks }
with_given (Workers n) c = record c { workers = Some n }

abbrev pub chosen_in : List GivenOption → Chosen
chosen_in [] = record { width = None; turns = None; workers = None }
chosen_in (g ∷ options) = with_given g.what (chosen_in options)

abbrev texts_at : OptionName → Chosen → Texts
texts_at WidthName c = number_text c.width
texts_at TurnsName c = picks_text c.turns
texts_at WorkersName c = number_text c.workers

none_given : (what : Choice) (options : List GivenOption) → AllByRecursion (λ (h : GivenOption). choice_name h.what ≢ choice_name what) options
    → option_values (option_of what) (option_parts options) ≡ []
none_given what [] differ = refl
none_given what (g ∷ options) differ = go what g.what differ.0 (none_given what options differ.1)
  where
    go : (w v : Choice) → (choice_name v ≡ choice_name w → ⊥) → option_values (option_of w) (option_parts options) ≡ []
        → option_values (option_of w) (OptionPart (option_of v) g.form (value_text v) ∷ option_parts options) ≡ []
    go (Width n) (Width m) d later = absurd (d refl)
    go (Width n) (Turns m) d later = later
    go (Width n) (Workers m) d later = later
    go (Turns n) (Width m) d later = later
    go (Turns n) (Turns m) d later = absurd (d refl)
    go (Turns n) (Workers m) d later = later
    go (Workers n) (Width m) d later = later
    go (Workers n) (Turns m) d later = later
    go (Workers n) (Workers m) d later = absurd (d refl)

texts_are : (name : OptionName) (options : List GivenOption) → DifferInName options → option_values name (option_parts options) ≡ texts_at name (chosen_in options)
texts_are WidthName [] differ = refl
texts_are TurnsName [] differ = refl
texts_are WorkersName [] differ = refl
texts_are name (g ∷ options) differ = go name g.what (none_given g.what options differ.0) (texts_are name options differ.1)
  where
    go : (name : OptionName) (what : Choice) → option_values (option_of what) (option_parts options) ≡ [] → option_values name (option_parts options) ≡ texts_at name (chosen_in options)
        → option_values name (OptionPart (option_of what) g.form (value_text what) ∷ option_parts options) ≡ texts_at name (with_given what (chosen_in options))
    go WidthName (Width n) none later = ap (λ (l : Texts). decimal n ∷ l) none
    go WidthName (Turns n) none later = later
    go WidthName (Workers n) none later = later
    go TurnsName (Width n) none later = later
    go TurnsName (Turns n) none later = ap (λ (l : Texts). list_text n ∷ l) none
    go TurnsName (Workers n) none later = later
    go WorkersName (Width n) none later = later
    go WorkersName (Turns n) none later = later
    go WorkersName (Workers n) none later = ap (λ (l : Texts). decimal n ∷ l) none

few_texts : (name : OptionName) (c : Chosen) → length (texts_at name c) ≤ 1
few_texts WidthName c = few c.width
  where
    few : (o : Option ℕ) → length (number_text o) ≤ 1
    few None = omega arith
    few (Some n) = omega arith
few_texts TurnsName c = few c.turns
  where
    few : (o : Option (List ℕ)) → length (picks_text o) ≤ 1
    few None = omega arith
    few (Some n) = omega arith
few_texts WorkersName c = few c.workers
  where
    few : (o : Option ℕ) → length (number_text o) ≤ 1
    few None = omega arith
    few (Some n) = omega arith

abbrev TakesChosen : Chosen → Type 0
TakesChosen c = IfSome c.width (λ n. IsWithin (Width n)) × IfSome c.turns (λ picks. IsWithin (Turns picks)) × IfSome c.workers (λ n. IsWithin (Workers n))

chosen_within : (options : List GivenOption) → AreWithin options → TakesChosen (chosen_in options)
chosen_within [] within = (tt, tt, tt)
chosen_within (g ∷ options) within = go g.what within.0 (chosen_within options within.1)
  where
    go : (what : Choice) → IsWithin what → TakesChosen (chosen_in options) → TakesChosen (with_given what (chosen_in options))
    go (Width n) w later = (w, later.1, later.2)
    go (Turns n) w later = (later.0, w, later.2)
    go (Workers n) w later = (later.0, later.1, w)

any_workers : (options : List GivenOption) → list_any (λ (g : GivenOption). is_workers g.what) options ≡ is_some (chosen_in options).workers
any_workers [] = refl
any_workers (g ∷ options) = go g.what (any_workers options)
  where
    go : (what : Choice) → list_any (λ (h : GivenOption). is_workers h.what) options ≡ is_some (chosen_in options).workers
        → (is_workers what || list_any (λ (h : GivenOption). is_workers h.what) options) ≡ is_some (with_given what (chosen_in options)).workers
    go (Width n) later = later
    go (Turns n) later = later
    go (Workers n) later = refl

alone_given : (options : List GivenOption) → length options ≡ 1 → is_some (chosen_in options).workers ≡ true → ((chosen_in options).width ≡ None) × ((chosen_in options).turns ≡ None)
alone_given [] one some = absurd (omega (arith, one))
alone_given (g ∷ []) one some = go g.what some
  where
    go : (what : Choice) → is_some (with_given what (chosen_in [])).workers ≡ true → ((with_given what (chosen_in [])).width ≡ None) × ((with_given what (chosen_in [])).turns ≡ None)
    go (Width n) e = absurd (true≢false (sym e))
    go (Turns n) e = absurd (true≢false (sym e))
    go (Workers n) e = (refl, refl)
alone_given (g ∷ h ∷ options) one some = absurd (omega (arith, one))

may_stand : (takes : GivenOption → Bool) (options : List GivenOption) → AreOptions takes options → MayStand (chosen_in options)
may_stand takes options are =
    let t = chosen_within options are.within in
    record { width = t.0; turns = t.1; workers = t.2; alone = λ some. alone_given options (are.alone (any_workers options ∙ some)) some }

-- ---- the words of a run and of a load

texts_spelled : (parts : List WordPart) (c : Chosen) → AreSpelled parts c → (name : OptionName) → option_values name parts ≡ texts_at name c
texts_spelled parts c s WidthName = s.width
texts_spelled parts c s TurnsName = s.turns
texts_spelled parts c s WorkersName = s.workers

-- words that ask for something have few parts
pub few_asked : (words : Texts) (c : Chosen) (numbers : Texts) (a : Ask words c numbers) → (length numbers ≡ 0) ⊎ (length numbers ≡ 2) → AreFew a.parts
few_asked words c numbers a two = record {
  once = λ name. subst (λ (l : Texts). length l ≤ 1) (sym (texts_spelled a.parts c a.spelled name)) (few_texts name c);
  paired = subst (λ (l : Texts). (length l ≡ 0) ⊎ (length l ≡ 2)) (sym a.numbers_are) two;
}

ask : (takes : GivenOption → Bool) (options : List GivenOption) (parts : List WordPart) (words numbers : Texts) → AreOptions takes options → words ≡ parts_words parts → ArePlainParts parts
    → ((name : OptionName) → option_values name parts ≡ option_values name (option_parts options)) → number_words parts ≡ numbers → Ask words (chosen_in options) numbers
ask takes options parts words numbers are e plain values n =
    let spelled : (name : OptionName) → option_values name parts ≡ texts_at name (chosen_in options) = λ name. values name ∙ texts_are name options are.once in
    record {
      parts = parts;
      have = subst (λ (w : Texts). HaveParts w parts) (sym e) (have_parts parts plain);
      spelled = record { width = spelled WidthName; turns = spelled TurnsName; workers = spelled WorkersName };
      may = may_stand takes options are;
      numbers_are = n;
    }

pub run_asks : (takes : GivenOption → Bool) (options : List GivenOption) (words : Texts) → AreOptions takes options → words ≡ words_of_all options → Ask words (chosen_in options) []
run_asks takes options words are e =
    let none : option_parts options ++ [] ≡ option_parts options = append-nil (option_parts options) in
    ask takes options (option_parts options ++ []) words [] are (e ∙ sym (append-nil (words_of_all options)) ∙ sym (words_before options []))
    (plain_before options [] are.within tt) (λ name. ap (option_values name) none) (numbers_before options [])

pub load_asks : (takes : GivenOption → Bool) (before between behind : List GivenOption) (n seed : ℕ) (words : Texts) → AreOptions takes (before ++ (between ++ behind)) → n < 2 ^ 64 → seed < 2 ^ 64
    → words ≡ words_of_all before ++ (decimal n ∷ (words_of_all between ++ (decimal seed ∷ words_of_all behind))) → Ask words (chosen_in (before ++ (between ++ behind))) (decimal n ∷ decimal seed ∷ [])
load_asks takes before between behind n seed words are small_n small_seed e =
    let third : List WordPart = option_parts behind ++ [] in
    let second : List WordPart = option_parts between ++ (NumberPart (decimal seed) ∷ third) in
    let first : List WordPart = option_parts before ++ (NumberPart (decimal n) ∷ second) in
    let within = parts_of (λ (g : GivenOption). IsWithin g.what) before (between ++ behind) are.within in
    let later = parts_of (λ (g : GivenOption). IsWithin g.what) between behind within.1 in
    let third_words : parts_words third ≡ words_of_all behind = words_before behind [] ∙ append-nil (words_of_all behind) in
    let second_words : parts_words second ≡ words_of_all between ++ (decimal seed ∷ words_of_all behind) =
    words_before between (NumberPart (decimal seed) ∷ third) ∙ ap (λ (l : Texts). words_of_all between ++ (decimal seed ∷ l)) third_words in
    let first_words : parts_words first ≡ words_of_all before ++ (decimal n ∷ (words_of_all between ++ (decimal seed ∷ words_of_all behind))) =
    words_before before (NumberPart (decimal n) ∷ second) ∙ ap (λ (l : Texts). words_of_all before ++ (decimal n ∷ l)) second_words in
    ask takes (before ++ (between ++ behind)) first words (decimal n ∷ decimal seed ∷ []) are (e ∙ sym first_words)
    (plain_before before (NumberPart (decimal n) ∷ second) within.0 (
      number_plain n small_n,
      plain_before between (NumberPart (decimal seed) ∷ third) later.0 (number_plain seed small_seed, plain_before behind [] later.1 tt),
    ))
    (λ name. values_before name before (between ++ behind) (NumberPart (decimal n) ∷ second)
    (values_before name between behind (NumberPart (decimal seed) ∷ third) (ap (option_values name) (append-nil (option_parts behind)))))
    (numbers_before before (NumberPart (decimal n) ∷ second)
    ∙ ap (λ (l : Texts). decimal n ∷ l) (numbers_before between (NumberPart (decimal seed) ∷ third) ∙ ap (λ (l : Texts). decimal seed ∷ l) (numbers_before behind [])))
