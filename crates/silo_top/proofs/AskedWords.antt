-- What words ask for.
use Rattle.std.proofs.Common.{◌≡◌, ℕ, ◌<◌, ◌≤◌, Bool, true, false, List, [], ◌∷◌, ◌++◌, length, refl, sym, ◌∙◌, ap, subst, arith, true≢false, eqb-true, unwrap_or}
use Rattle.std.specs.Prelude.{is_some, ◌||◌, ◌&&◌, Option, None, Some}
use Rattle.std.specs.List.{list_all, list_any, AllByRecursion}
use Rattle.promise_spec.specs.Words.{Choice, Width, Turns, Workers, GivenOption, Manner, manner_of, plain_manner, with_choice, is_workers, IsWithin, AreOptions, Command, Init, Run, Show, History, Audit, Load, Check, Compact, Upgrade, Migrate, Say, SpellsRun, SpellsLoad}
use Rattle.promise_spec.specs.Calls.{any_option, Understands}
use Rattle.promise_spec.proofs.Words.{one_command}
use Rattle.command_words.specs.Options.{Chosen, chosen_manner, is_choice_asked, run_chosen, load_chosen, command_of, has_option}
use Rattle.command_words.specs.declared.words.LoadOptions.{LoadOptions}
use Rattle.command_words.specs.declared.words.RunOptions.{RunOptions}
use Rattle.command_words.specs.declared.words.Words.{Words}
use Rattle.command_words.specs.declared.words.Words.TheVariants as words
use Rattle.silo_top.specs.CallAnswers.{workers_manner}
use Rattle.silo_top.specs.AskedCommand.{carriage_manner, IsCarriage, carriage_by, carriage_of}

abbrev Texts : Type 0
Texts = List (List ℕ)

-- ---- options that are taken are taken where all are

all_taken : (options : List GivenOption) → list_all any_option options ≡ true
all_taken [] = refl
all_taken (g ∷ options) = all_taken options

any_options : (takes : GivenOption → Bool) (options : List GivenOption) → AreOptions takes options → AreOptions any_option options
any_options takes options are = record { taken = all_taken options; within = are.within; once = are.once; alone = are.alone }

says_any : (takes : GivenOption → Bool) (texts : Texts) (c : Command) → Say takes texts c → Say any_option texts c
says_any takes texts Init k = k
says_any takes texts (Run m) k = record { options = k.options; are = any_options takes k.options k.are; words_are = k.words_are; manner = k.manner }
says_any takes texts Show k = k
says_any takes texts History k = k
says_any takes texts Audit k = k
says_any takes texts (Load n seed m) k = record {
  before = k.before;
  between = k.between;
  behind = k.behind;
  are = any_options takes (k.before ++ (k.between ++ k.behind)) k.are;
  no_turns = k.no_turns;
  many = k.many;
  small = k.small;
  words_are = k.words_are;
  manner = k.manner;
}
says_any takes texts (Check n seed) k = k
says_any takes texts Compact k = k
says_any takes texts Upgrade k = k
says_any takes texts Migrate k = k

-- the words say one command, whatever is taken
pub one_said : (takes others : GivenOption → Bool) (texts : Texts) (c d : Command) → Say takes texts c → Say others texts d → c ≡ d
one_said takes others texts c d k l = one_command any_option texts c d (says_any takes texts c k) (says_any others texts d l)

-- ---- small facts

and_parts : (x y : Bool) → (x && y) ≡ true → (x ≡ true) × (y ≡ true)
and_parts true y q = (refl, q)
and_parts false y q = absurd (true≢false (sym q))

some_same : (a b : ℕ) → Some a ≡ Some b → a ≡ b
some_same a b q = ap (λ (x : Option ℕ). unwrap_or x 0) q

-- ---- the manner of options

-- a line may be in flight
wide_by : (options : List GivenOption) → AllByRecursion (λ (g : GivenOption). IsWithin g.what) options → 0 < (manner_of options).width
wide_by [] within = omega arith
wide_by (g ∷ options) within = go g.what within.0 (wide_by options within.1)
  where
    go : (what : Choice) → IsWithin what → 0 < (manner_of options).width → 0 < (with_choice what (manner_of options)).width
    go (Width n) is later = omega (arith, is.0)
    go (Turns picks) is later = later
    go (Workers n) is later = later

-- this option may stem from so many workers
abbrev stems : Option ℕ → GivenOption → Bool
stems w g = is_choice_asked w g.what

-- so many workers were asked for
abbrev AreSome : Option ℕ → Type 0
AreSome w = (n : ℕ) × (w ≡ Some n) × (1 ≤ n) × (n ≤ 16)

asked_for : (w : Option ℕ) (n : ℕ) → is_choice_asked w (Workers n) ≡ true → IsWithin (Workers n) → AreSome w
asked_for None n taken within = absurd (true≢false (sym taken))
asked_for (Some k) n taken within = (let same : k ≡ n = eqb-true k n taken in (k, refl, subst (λ (m : ℕ). 1 ≤ m) (sym same) within.0, subst (λ (m : ℕ). m ≤ 16) (sym same) within.1))

-- options by which threads carry say how many
threads_by : (w : Option ℕ) (options : List GivenOption) → list_all (stems w) options ≡ true → AllByRecursion (λ (g : GivenOption). IsWithin g.what) options
    → (manner_of options).threaded ≡ true → AreSome w × (list_any (λ (g : GivenOption). is_workers g.what) options ≡ true)
threads_by w [] taken within threaded = absurd (true≢false (sym threaded))
threads_by w (g ∷ options) taken within threaded =
    go g.what (and_parts (is_choice_asked w g.what) (list_all (stems w) options) taken) within.0 threaded (λ t. threads_by w options (and_parts (is_choice_asked w g.what) (list_all (stems w) options) taken).1 within.1 t)
  where
    go : (what : Choice) → (is_choice_asked w what ≡ true) × (list_all (stems w) options ≡ true) → IsWithin what → (with_choice what (manner_of options)).threaded ≡ true
        → ((manner_of options).threaded ≡ true → AreSome w × (list_any (λ (g : GivenOption). is_workers g.what) options ≡ true))
        → AreSome w × ((is_workers what || list_any (λ (g : GivenOption). is_workers g.what) options) ≡ true)
    go (Width n) t is threaded later = later threaded
    go (Turns picks) t is threaded later = later threaded
    go (Workers n) t is threaded later = (asked_for w n t.0 is, refl)

-- one option by which threads carry chooses nothing else
one_manner : (options : List GivenOption) → length options ≡ 1 → (manner_of options).threaded ≡ true → manner_of options ≡ workers_manner
one_manner [] one threaded = absurd (true≢false (sym threaded))
one_manner (g ∷ []) one threaded = go g.what threaded
  where
    go : (what : Choice) → (with_choice what plain_manner).threaded ≡ true → with_choice what plain_manner ≡ workers_manner
    go (Width n) t = absurd (true≢false (sym t))
    go (Turns picks) t = absurd (true≢false (sym t))
    go (Workers n) t = refl
one_manner (g ∷ (h ∷ options)) one threaded = absurd (cc one)

-- options that choose so many workers are carried so
abbrev SoBy : Chosen → Option ℕ → Type 0
SoBy chosen w = (chosen_manner chosen ≡ carriage_manner (carriage_by w (unwrap_or chosen.width 1) (unwrap_or chosen.turns []))) × IsCarriage (carriage_by w (unwrap_or chosen.width 1) (unwrap_or chosen.turns []))

-- what is chosen is carried in the manner that it says
abbrev pub IsCarriedSo : Chosen → Type 0
IsCarriedSo chosen = (chosen_manner chosen ≡ carriage_manner (carriage_of chosen)) × IsCarriage (carriage_of chosen)

carried_so : (chosen : Chosen) (options : List GivenOption) → AreOptions (stems chosen.workers) options → chosen_manner chosen ≡ manner_of options → IsCarriedSo chosen
carried_so chosen options are manner = by chosen.workers refl
  where
    by : (w : Option ℕ) → chosen.workers ≡ w → SoBy chosen w
    by None q = (
      ap (λ (x : Option ℕ). record { threaded = is_some x; width = unwrap_or chosen.width 1; picks = unwrap_or chosen.turns [] }) q,
      subst (λ (m : Manner). 0 < m.width) (sym manner) (wide_by options are.within),
    )
    by (Some n) q =
        let threaded : (manner_of options).threaded ≡ true = ap (λ (m : Manner). m.threaded) (sym manner) ∙ ap is_some q in
        let t = threads_by chosen.workers options are.taken are.within threaded in
        let same : Some t.0.0 ≡ Some n = sym t.0.1 ∙ q in
        let number : t.0.0 ≡ n = some_same t.0.0 n same in (
          manner ∙ one_manner options (are.alone t.1) threaded,
          (subst (λ (k : ℕ). 1 ≤ k) number t.0.2, subst (λ (k : ℕ). k ≤ 16) number t.0.3),
        )

-- ---- what was read

module _ (texts : Texts) (said : Words) (o : RunOptions) (is : said ≡ words.Run o) (say : Say (λ (g : GivenOption). has_option said g) texts (command_of said)) where
  spelled : SpellsRun (stems o.workers) texts (chosen_manner (run_chosen o))
  spelled = subst (λ (w : Words). Say (λ (g : GivenOption). has_option w g) texts (command_of w)) is say

  run_so : IsCarriedSo (run_chosen o)
  run_so = carried_so (run_chosen o) spelled.options spelled.are spelled.manner

  -- a run is asked for, and can be carried
  pub run_understood : Understands texts (Run (carriage_manner (carriage_of (run_chosen o))))
  run_understood = subst (λ (m : Manner). Say any_option texts (Run m)) run_so.0 (says_any (stems o.workers) texts (Run (chosen_manner (run_chosen o))) spelled)

  pub run_can : IsCarriage (carriage_of (run_chosen o))
  run_can = run_so.1

module _ (texts : Texts) (said : Words) (o : LoadOptions) (is : said ≡ words.Load o) (say : Say (λ (g : GivenOption). has_option said g) texts (command_of said)) where
  load_spelled : SpellsLoad (stems o.workers) texts o.transfers o.seed (chosen_manner (load_chosen o))
  load_spelled = subst (λ (w : Words). Say (λ (g : GivenOption). has_option w g) texts (command_of w)) is say

  load_so : IsCarriedSo (load_chosen o)
  load_so = carried_so (load_chosen o) (load_spelled.before ++ (load_spelled.between ++ load_spelled.behind)) load_spelled.are load_spelled.manner

  -- so is a load, of few enough transfers
  pub load_understood : Understands texts (Load o.transfers o.seed (carriage_manner (carriage_of (load_chosen o))))
  load_understood = subst (λ (m : Manner). Say any_option texts (Load o.transfers o.seed m)) load_so.0 (says_any (stems o.workers) texts (Load o.transfers o.seed (chosen_manner (load_chosen o))) load_spelled)

  pub load_can : IsCarriage (carriage_of (load_chosen o)) × (o.transfers ≤ 100000)
  load_can = (load_so.1, load_spelled.many.1)
