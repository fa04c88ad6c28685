-- From parts and the values that they spell to options, and back.
use Rattle.std.proofs.Common.{◌≡◌, ◌≢◌, ◌∙◌, ℕ, suc, ◌+◌, ◌≤◌, Bool, true, false, cond, List, [], ◌∷◌, ◌++◌, length, Option, Some, None, refl, sym, ap, subst, true≢false, inl, inr, arith, append_assoc, get_or, decimal}
use Rattle.std.specs.Prelude.{◌==◌, IfSome, is_some, unwrap_or}
use Rattle.std.specs.List.{AllByRecursion, list_any, list_all}
use Rattle.std.proofs.lemmas.Bool.Decides.{eqb_tells}
use Rattle.promise_spec.specs.Words.{Choice, Width, Turns, Workers, Form, GivenOption, Manner, choice_name, value_text, list_text, words_in, words_of, words_of_all, IsWithin, DifferInName, with_choice, manner_of, is_workers, AreOptions}
use Rattle.command_words.specs.Parts.{OptionName, WidthName, TurnsName, WorkersName, dashed_name, WordPart, OptionPart, NumberPart, parts_words, is_same_name, option_values, number_words}
use Rattle.command_words.specs.Options.{Chosen, number_text, picks_text, AreSpelled, MayStand, chosen_manner, is_choice_asked}

-- ---- the options of parts

abbrev pub choice_of : Chosen → OptionName → Choice
choice_of c WidthName = Width (unwrap_or c.width 0)
choice_of c TurnsName = Turns (unwrap_or c.turns [])
choice_of c WorkersName = Workers (unwrap_or c.workers 0)

abbrev pub options_of : Chosen → List WordPart → List GivenOption
options_of c [] = []
options_of c (OptionPart name form value ∷ parts) = record { what = choice_of c name; form = form } ∷ options_of c parts
options_of c (NumberPart word ∷ parts) = options_of c parts

-- a value of an option is the one that was chosen, which the option takes
abbrev IsIt : Chosen → OptionName → List ℕ → Type 0
IsIt c name value = (value ≡ value_text (choice_of c name)) × IsWithin (choice_of c name) × (is_choice_asked c.workers (choice_of c name) ≡ true)

abbrev pub Agree : Chosen → List WordPart → Type 0
Agree c parts = (name : OptionName) → AllByRecursion (IsIt c name) (option_values name parts)

rest_agrees : (c : Chosen) (name : OptionName) (form : Form) (value : List ℕ) (parts : List WordPart) → Agree c (OptionPart name form value ∷ parts) → Agree c parts
rest_agrees c name form value parts agree other = go (is_same_name other name) (agree other)
  where
    go : (b : Bool) → AllByRecursion (IsIt c other) (cond b (value ∷ option_values other parts) (option_values other parts)) → AllByRecursion (IsIt c other) (option_values other parts)
    go true all = all.1
    go false all = all

first_agrees : (c : Chosen) (name : OptionName) (form : Form) (value : List ℕ) (parts : List WordPart) → Agree c (OptionPart name form value ∷ parts) → IsIt c name value
first_agrees c WidthName form value parts agree = (agree WidthName).0
first_agrees c TurnsName form value parts agree = (agree TurnsName).0
first_agrees c WorkersName form value parts agree = (agree WorkersName).0

its_name : (c : Chosen) (name : OptionName) → dashed_name name ≡ choice_name (choice_of c name)
its_name c WidthName = refl
its_name c TurnsName = refl
its_name c WorkersName = refl

its_words : (c : Chosen) (name : OptionName) (form : Form) (value : List ℕ) → value ≡ value_text (choice_of c name)
    → words_in form (dashed_name name) value ≡ words_in form (choice_name (choice_of c name)) (value_text (choice_of c name))
its_words c name form value e = λ i. words_in form (its_name c name i) (e i)

abbrev Texts : Type 0
Texts = List (List ℕ)

-- parts without numbers are options
pub no_number : (c : Chosen) (parts : List WordPart) → Agree c parts → number_words parts ≡ [] → parts_words parts ≡ words_of_all (options_of c parts)
no_number c [] agree none = refl
no_number c (NumberPart word ∷ parts) agree none = absurd (cc none)
no_number c (OptionPart name form value ∷ parts) agree none =
    let here = its_words c name form value (first_agrees c name form value parts agree).0 in
    let later = no_number c parts (rest_agrees c name form value parts agree) none in
    λ i. here i ++ later i

-- words of options before others
more_words : (g : GivenOption) (options : List GivenOption) (a : Texts) → words_of g ++ (words_of_all options ++ a) ≡ words_of_all (g ∷ options) ++ a
more_words g options a = sym (append_assoc (words_of g) (words_of_all options) a)

abbrev OneNumber : Chosen → List WordPart → List ℕ → Type 0
OneNumber c parts b = (x y : List GivenOption) × (parts_words parts ≡ words_of_all x ++ (b ∷ words_of_all y)) × (options_of c parts ≡ x ++ y)

one_number : (c : Chosen) (b : List ℕ) (parts : List WordPart) → Agree c parts → number_words parts ≡ b ∷ [] → OneNumber c parts b
one_number c b [] agree one = absurd (cc one)
one_number c b (NumberPart word ∷ parts) agree one =
    let same : word ≡ b = ap (λ (l : Texts). get_or l 0 []) one in
    let none : number_words parts ≡ [] = ap (λ (l : Texts). tail l) one in
    let later = no_number c parts agree none in
    ([], options_of c parts, (λ i. same i ∷ later i), refl)
  where
    tail : Texts → Texts
    tail [] = []
    tail (x ∷ xs) = xs
one_number c b (OptionPart name form value ∷ parts) agree one =
    let g : GivenOption = record { what = choice_of c name; form = form } in
    let here = its_words c name form value (first_agrees c name form value parts agree).0 in
    let later = one_number c b parts (rest_agrees c name form value parts agree) one in
    (g ∷ later.0, later.1, (λ i. here i ++ later.2 i) ∙ more_words g later.0 (b ∷ words_of_all later.1), ap (λ (l : List GivenOption). g ∷ l) later.3)

abbrev pub TwoNumbers : Chosen → List WordPart → List ℕ → List ℕ → Type 0
TwoNumbers c parts a b = (x y z : List GivenOption) × (parts_words parts ≡ words_of_all x ++ (a ∷ (words_of_all y ++ (b ∷ words_of_all z)))) × (options_of c parts ≡ x ++ (y ++ z))

pub two_numbers : (c : Chosen) (a b : List ℕ) (parts : List WordPart) → Agree c parts → number_words parts ≡ a ∷ b ∷ [] → TwoNumbers c parts a b
two_numbers c a b [] agree two = absurd (cc two)
two_numbers c a b (NumberPart word ∷ parts) agree two =
    let same : word ≡ a = ap (λ (l : Texts). get_or l 0 []) two in
    let one : number_words parts ≡ b ∷ [] = ap (λ (l : Texts). tail l) two in
    let later = one_number c b parts agree one in
    ([], later.0, later.1, (λ i. same i ∷ later.2 i), later.3)
  where
    tail : Texts → Texts
    tail [] = []
    tail (x ∷ xs) = xs
two_numbers c a b (OptionPart name form value ∷ parts) agree two =
    let g : GivenOption = record { what = choice_of c name; form = form } in
    let here = its_words c name form value (first_agrees c name form value parts agree).0 in
    let later = two_numbers c a b parts (rest_agrees c name form value parts agree) two in
    (g ∷ later.0, later.1, later.2, (λ i. here i ++ later.3 i) ∙ more_words g later.0 (a ∷ (words_of_all later.1 ++ (b ∷ words_of_all later.2))), ap (λ (l : List GivenOption). g ∷ l) later.4)

-- ---- they may stand together

all_within : (c : Chosen) (parts : List WordPart) → Agree c parts → AllByRecursion (λ (g : GivenOption). IsWithin g.what) (options_of c parts)
all_within c [] agree = tt
all_within c (NumberPart word ∷ parts) agree = all_within c parts agree
all_within c (OptionPart name form value ∷ parts) agree = ((first_agrees c name form value parts agree).1, all_within c parts (rest_agrees c name form value parts agree))

all_asked : (c : Chosen) (parts : List WordPart) → Agree c parts → list_all (λ (g : GivenOption). is_choice_asked c.workers g.what) (options_of c parts) ≡ true
all_asked c [] agree = refl
all_asked c (NumberPart word ∷ parts) agree = all_asked c parts agree
all_asked c (OptionPart name form value ∷ parts) agree = rw (first_agrees c name form value parts agree).2 (all_asked c parts (rest_agrees c name form value parts agree))

none_named : (c : Chosen) (name : OptionName) (parts : List WordPart) → length (option_values name parts) ≡ 0
    → AllByRecursion (λ (h : GivenOption). choice_name h.what ≢ choice_name (choice_of c name)) (options_of c parts)
none_named c name [] none = tt
none_named c name (NumberPart word ∷ parts) none = none_named c name parts none
none_named c WidthName (OptionPart WidthName form value ∷ parts) none = absurd (cc none)
none_named c WidthName (OptionPart TurnsName form value ∷ parts) none = (λ e. omega (arith, let letter : ◌≡◌ {A = ℕ} 117 105 = ap (λ (l : List ℕ). get_or l 3 0) e in letter), none_named c WidthName parts none)
none_named c WidthName (OptionPart WorkersName form value ∷ parts) none = (λ e. omega (arith, let letter : ◌≡◌ {A = ℕ} 111 105 = ap (λ (l : List ℕ). get_or l 3 0) e in letter), none_named c WidthName parts none)
none_named c TurnsName (OptionPart WidthName form value ∷ parts) none = (λ e. omega (arith, let letter : ◌≡◌ {A = ℕ} 105 117 = ap (λ (l : List ℕ). get_or l 3 0) e in letter), none_named c TurnsName parts none)
none_named c TurnsName (OptionPart TurnsName form value ∷ parts) none = absurd (cc none)
none_named c TurnsName (OptionPart WorkersName form value ∷ parts) none = (λ e. omega (arith, let letter : ◌≡◌ {A = ℕ} 111 117 = ap (λ (l : List ℕ). get_or l 3 0) e in letter), none_named c TurnsName parts none)
none_named c WorkersName (OptionPart WidthName form value ∷ parts) none = (λ e. omega (arith, let letter : ◌≡◌ {A = ℕ} 105 111 = ap (λ (l : List ℕ). get_or l 3 0) e in letter), none_named c WorkersName parts none)
none_named c WorkersName (OptionPart TurnsName form value ∷ parts) none = (λ e. omega (arith, let letter : ◌≡◌ {A = ℕ} 117 111 = ap (λ (l : List ℕ). get_or l 3 0) e in letter), none_named c WorkersName parts none)
none_named c WorkersName (OptionPart WorkersName form value ∷ parts) none = absurd (cc none)

abbrev AtMostOnce : List WordPart → Type 0
AtMostOnce parts = (name : OptionName) → length (option_values name parts) ≤ 1

rest_once : (name : OptionName) (form : Form) (value : List ℕ) (parts : List WordPart) → AtMostOnce (OptionPart name form value ∷ parts) → AtMostOnce parts
rest_once name form value parts once other = go (is_same_name other name) (once other)
  where
    go : (b : Bool) → length (cond b (value ∷ option_values other parts) (option_values other parts)) ≤ 1 → length (option_values other parts) ≤ 1
    go true few = omega (arith, few)
    go false few = few

no_second : (name : OptionName) (form : Form) (value : List ℕ) (parts : List WordPart) → AtMostOnce (OptionPart name form value ∷ parts) → length (option_values name parts) ≡ 0
no_second WidthName form value parts once = let few : suc (length (option_values WidthName parts)) ≤ 1 = once WidthName in omega (arith, few)
no_second TurnsName form value parts once = let few : suc (length (option_values TurnsName parts)) ≤ 1 = once TurnsName in omega (arith, few)
no_second WorkersName form value parts once = let few : suc (length (option_values WorkersName parts)) ≤ 1 = once WorkersName in omega (arith, few)

all_differ : (c : Chosen) (parts : List WordPart) → AtMostOnce parts → DifferInName (options_of c parts)
all_differ c [] once = tt
all_differ c (NumberPart word ∷ parts) once = all_differ c parts once
all_differ c (OptionPart name form value ∷ parts) once =
    (none_named c name parts (no_second name form value parts once), all_differ c parts (rest_once name form value parts once))

-- how many there are, and whether workers are among them
count : (c : Chosen) (parts : List WordPart)
    → length (options_of c parts) ≡ length (option_values WidthName parts) + length (option_values TurnsName parts) + length (option_values WorkersName parts)
count c [] = refl
count c (NumberPart word ∷ parts) = count c parts
count c (OptionPart WidthName form value ∷ parts) = let n = count c parts in omega (arith, n)
count c (OptionPart TurnsName form value ∷ parts) = let n = count c parts in omega (arith, n)
count c (OptionPart WorkersName form value ∷ parts) = let n = count c parts in omega (arith, n)

abbrev is_any : Texts → Bool
is_any [] = false
is_any (x ∷ xs) = true

any_workers : (c : Chosen) (parts : List WordPart) → list_any (λ (g : GivenOption). is_workers g.what) (options_of c parts) ≡ is_any (option_values WorkersName parts)
any_workers c [] = refl
any_workers c (NumberPart word ∷ parts) = any_workers c parts
any_workers c (OptionPart WidthName form value ∷ parts) = any_workers c parts
any_workers c (OptionPart TurnsName form value ∷ parts) = any_workers c parts
any_workers c (OptionPart WorkersName form value ∷ parts) = refl

its_manner : (c : Chosen) (parts : List WordPart) → manner_of (options_of c parts) ≡ record {
  threaded = is_any (option_values WorkersName parts);
  width = cond (is_any (option_values WidthName parts)) (unwrap_or c.width 0) 1;
  picks = cond (is_any (option_values TurnsName parts)) (unwrap_or c.turns []) [];
}
its_manner c [] = refl
its_manner c (NumberPart word ∷ parts) = its_manner c parts
its_manner c (OptionPart WidthName form value ∷ parts) = ap (with_choice (Width (unwrap_or c.width 0))) (its_manner c parts)
its_manner c (OptionPart TurnsName form value ∷ parts) = ap (with_choice (Turns (unwrap_or c.turns []))) (its_manner c parts)
its_manner c (OptionPart WorkersName form value ∷ parts) = ap (with_choice (Workers (unwrap_or c.workers 0))) (its_manner c parts)

-- ---- all of it, where the parts spell what was chosen

few_numbers : (n : Option ℕ) → length (number_text n) ≤ 1
few_numbers None = omega arith
few_numbers (Some n) = omega arith

few_picks : (n : Option (List ℕ)) → length (picks_text n) ≤ 1
few_picks None = omega arith
few_picks (Some n) = omega arith

any_number : (n : Option ℕ) → is_any (number_text n) ≡ is_some n
any_number None = refl
any_number (Some n) = refl

same_number : (n : ℕ) → (n == n) ≡ true
same_number n = elim (eqb_tells n n) [
  | inl h ↦ h.0
  | inr h ↦ absurd (h.1 refl)
]

module _ (parts : List WordPart) (c : Chosen) (s : AreSpelled parts c) (m : MayStand c) where
  once : AtMostOnce parts
  once WidthName = subst (λ (l : Texts). length l ≤ 1) (sym s.width) (few_numbers c.width)
  once TurnsName = subst (λ (l : Texts). length l ≤ 1) (sym s.turns) (few_picks c.turns)
  once WorkersName = subst (λ (l : Texts). length l ≤ 1) (sym s.workers) (few_numbers c.workers)

  pub agrees : Agree c parts
  agrees WidthName = subst (λ (l : Texts). AllByRecursion (IsIt c WidthName) l) (sym s.width) (go c.width refl m.width)
    where
      go : (o : Option ℕ) → c.width ≡ o → IfSome o (λ n. IsWithin (Width n)) → AllByRecursion (IsIt c WidthName) (number_text o)
      go None e within = tt
      go (Some n) e within = ((ap (λ (o : Option ℕ). decimal (unwrap_or o 0)) (sym e), subst (λ (o : Option ℕ). IsWithin (Width (unwrap_or o 0))) (sym e) within, refl), tt)
  agrees TurnsName = subst (λ (l : Texts). AllByRecursion (IsIt c TurnsName) l) (sym s.turns) (go c.turns refl m.turns)
    where
      go : (o : Option (List ℕ)) → c.turns ≡ o → IfSome o (λ picks. IsWithin (Turns picks)) → AllByRecursion (IsIt c TurnsName) (picks_text o)
      go None e within = tt
      go (Some picks) e within = ((ap (λ (o : Option (List ℕ)). list_text (unwrap_or o [])) (sym e), subst (λ (o : Option (List ℕ)). IsWithin (Turns (unwrap_or o []))) (sym e) within, refl), tt)
  agrees WorkersName = subst (λ (l : Texts). AllByRecursion (IsIt c WorkersName) l) (sym s.workers) (go c.workers refl m.workers)
    where
      go : (o : Option ℕ) → c.workers ≡ o → IfSome o (λ n. IsWithin (Workers n)) → AllByRecursion (IsIt c WorkersName) (number_text o)
      go None e within = tt
      go (Some n) e within = (
        (
          ap (λ (o : Option ℕ). decimal (unwrap_or o 0)) (sym e),
          subst (λ (o : Option ℕ). IsWithin (Workers (unwrap_or o 0))) (sym e) within,
          rw e (same_number n),
        ),
        tt,
      )

  pub are_options : AreOptions (λ (g : GivenOption). is_choice_asked c.workers g.what) (options_of c parts)
  are_options = record {
    taken = all_asked c parts agrees;
    within = all_within c parts agrees;
    once = all_differ c parts once;
    alone = λ any. alone (sym (any_number c.workers) ∙ ap is_any (sym s.workers) ∙ sym (any_workers c parts) ∙ any);
  }
    where
      alone : is_some c.workers ≡ true → length (options_of c parts) ≡ 1
      alone some =
          let others = m.alone some in
          let w : length (option_values WidthName parts) ≡ 0 = ap length (s.width ∙ ap number_text others.0) in
          let t : length (option_values TurnsName parts) ≡ 0 = ap length (s.turns ∙ ap picks_text others.1) in
          let k : length (option_values WorkersName parts) ≡ 1 = ap length s.workers ∙ go c.workers some in
          omega (arith, w, t, k, count c parts)
        where
          go : (o : Option ℕ) → is_some o ≡ true → length (number_text o) ≡ 1
          go None e = absurd (true≢false (sym e))
          go (Some n) e = refl

  pub right_manner : chosen_manner c ≡ manner_of (options_of c parts)
  right_manner = sym (its_manner c parts ∙ (λ i. let r : Manner = record {
    threaded = (ap is_any s.workers ∙ any_number c.workers) i;
    width = (ap (λ (l : Texts). cond (is_any l) (unwrap_or c.width 0) 1) s.width ∙ width_is c.width) i;
    picks = (ap (λ (l : Texts). cond (is_any l) (unwrap_or c.turns []) []) s.turns ∙ picks_are c.turns) i;
  } in r))
    where
      width_is : (o : Option ℕ) → cond (is_any (number_text o)) (unwrap_or o 0) 1 ≡ unwrap_or o 1
      width_is None = refl
      width_is (Some n) = refl

      picks_are : (o : Option (List ℕ)) → cond (is_any (picks_text o)) (unwrap_or o []) [] ≡ unwrap_or o []
      picks_are None = refl
      picks_are (Some picks) = refl
